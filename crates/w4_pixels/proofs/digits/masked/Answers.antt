use Rattle.w4_pixels.proofs.DigitLaws.{masked_digit}
use Rattle.w4_pixels.proofs.digits.masked.Goals as goal

pub returns : goal.returns
returns c = λ k hk. masked_digit c.args.byte c.args.mask c.filled.result c.args.index k c.ranges.mask.fits
    hk (c.filled.ensures k hk) (c.requires k hk)
