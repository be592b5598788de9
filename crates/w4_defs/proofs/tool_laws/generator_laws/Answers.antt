use Rattle.w4_defs.proofs.GeneratorLaws.{draws_are_small, made_inputs_are_counted, made_modules_are_accepted}
use Rattle.w4_defs.proofs.tool_laws.generator_laws.Goals as goal

pub returns-clause-accepted : goal.returns-clause-accepted
returns-clause-accepted c = made_modules_are_accepted

pub returns-clause-draws : goal.returns-clause-draws
returns-clause-draws c = draws_are_small

pub returns-clause-inputs : goal.returns-clause-inputs
returns-clause-inputs c = made_inputs_are_counted
