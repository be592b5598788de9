use Rattle.w4_program.proofs.OutputLaws.{one_output}
use Rattle.w4_program.proofs.run.one_output.Goals as goal

pub returns : goal.returns
returns c = one_output c.at_most_one.ensures
