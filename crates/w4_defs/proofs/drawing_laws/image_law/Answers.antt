use Rattle.w4_defs.proofs.RegisterLaws.{length-image}
use Rattle.w4_defs.proofs.drawing_laws.image_law.Goals as goal

pub returns : goal.returns
returns c = length-image
