use Rattle.w4_pixels.proofs.DigitLaws.{one_digit}
use Rattle.w4_pixels.proofs.digits.digit_mask.Goals as goal

pub returns : goal.returns
returns c = λ j hj. one_digit c.args.k j c.requires hj
