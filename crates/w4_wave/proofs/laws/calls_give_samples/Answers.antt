use Rattle.w4_wave.proofs.CallLaws.{calls_give_samples}
use Rattle.w4_wave.proofs.laws.calls_give_samples.Goals as goal

pub returns : goal.returns
returns c = calls_give_samples
