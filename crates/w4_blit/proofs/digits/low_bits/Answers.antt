use Rattle.w4_blit.proofs.DigitLaws.{low_both}
use Rattle.w4_blit.proofs.digits.low_bits.Goals as goal

pub returns : goal.returns
returns c = λ k hk. low_both c.args.values k hk
