use Rattle.w4_defs.proofs.PlainSound.{plain_sound}
use Rattle.w4_defs.proofs.evaluation_laws.plain_soundness.Goals as goal

pub returns : goal.returns
returns c = plain_sound
