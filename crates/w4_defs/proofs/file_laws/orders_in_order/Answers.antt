use Rattle.w4_defs.proofs.ScriptLaws.{orders_in_parts, first_bad_line, file_limit}
use Rattle.w4_defs.proofs.file_laws.orders_in_order.Goals as goal

pub returns-clause-parts : goal.returns-clause-parts
returns-clause-parts g c = orders_in_parts

pub returns-clause-bad : goal.returns-clause-bad
returns-clause-bad g c = first_bad_line

pub returns-clause-limit : goal.returns-clause-limit
returns-clause-limit g c = file_limit
