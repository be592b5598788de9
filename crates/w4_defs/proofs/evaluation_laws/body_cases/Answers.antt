use Rattle.w4_defs.specs.WorkedBodies.{last_byte_is_loaded, byte_is_extended, palette_is_copied, copy_past_the_end_traps}
use Rattle.w4_defs.proofs.evaluation_laws.body_cases.Goals as goal

pub returns-clause-last_byte : goal.returns-clause-last_byte
returns-clause-last_byte c = last_byte_is_loaded

pub returns-clause-extended : goal.returns-clause-extended
returns-clause-extended c = byte_is_extended

pub returns-clause-palette : goal.returns-clause-palette
returns-clause-palette c = palette_is_copied

pub returns-clause-copy_outside : goal.returns-clause-copy_outside
returns-clause-copy_outside c = copy_past_the_end_traps
