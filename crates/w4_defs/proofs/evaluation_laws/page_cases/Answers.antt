use Rattle.w4_defs.specs.WorkedRuns.{past_the_end_traps, stores_are_little_endian, copy_takes_old_bytes, memory_is_one_page}
use Rattle.w4_defs.proofs.evaluation_laws.page_cases.Goals as goal

pub returns-clause-outside : goal.returns-clause-outside
returns-clause-outside c = past_the_end_traps

pub returns-clause-little_endian : goal.returns-clause-little_endian
returns-clause-little_endian c = stores_are_little_endian

pub returns-clause-copy : goal.returns-clause-copy
returns-clause-copy c = copy_takes_old_bytes

pub returns-clause-one_page : goal.returns-clause-one_page
returns-clause-one_page c = memory_is_one_page
