use Rattle.w4_console.proofs.MeaningLaws.{accepted_runs_have_meaning}
use Rattle.w4_console.proofs.laws.accepted_runs_have_meaning.Goals as goal

pub returns : goal.returns
returns c = accepted_runs_have_meaning
