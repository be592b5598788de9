use Rattle.w4_defs.specs.WorkedRuns.{nops_take_units, trap_takes_unit, endless_loop_is_spent, loop_is_charged_once, import_takes_weight, fill_takes_further_units, fill_past_the_end_traps}
use Rattle.w4_defs.proofs.evaluation_laws.budget_cases.Goals as goal

pub returns-clause-nops : goal.returns-clause-nops
returns-clause-nops c = nops_take_units

pub returns-clause-trap : goal.returns-clause-trap
returns-clause-trap c = trap_takes_unit

pub returns-clause-endless : goal.returns-clause-endless
returns-clause-endless c = endless_loop_is_spent

pub returns-clause-turns : goal.returns-clause-turns
returns-clause-turns c = loop_is_charged_once

pub returns-clause-import : goal.returns-clause-import
returns-clause-import c = import_takes_weight

pub returns-clause-fill : goal.returns-clause-fill
returns-clause-fill c = fill_takes_further_units

pub returns-clause-fill_outside : goal.returns-clause-fill_outside
returns-clause-fill_outside c = fill_past_the_end_traps
