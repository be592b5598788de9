use Rattle.w4_pixels.proofs.DigitLaws.{span_digit}
use Rattle.w4_pixels.proofs.digits.span_mask.Goals as goal

pub returns : goal.returns
returns c = λ k hk. span_digit c.args.low c.args.high k c.requires.low c.requires.some c.requires.high hk
