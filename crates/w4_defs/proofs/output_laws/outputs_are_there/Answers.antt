use Rattle.w4_defs.proofs.OutputsThereLaws.{made_outputs_are_there, outputs_are_there}
use Rattle.w4_defs.proofs.output_laws.outputs_are_there.Goals as goal

pub returns-clause-over_carts : goal.returns-clause-over_carts
returns-clause-over_carts c = outputs_are_there

pub returns-clause-made : goal.returns-clause-made
returns-clause-made c = made_outputs_are_there
