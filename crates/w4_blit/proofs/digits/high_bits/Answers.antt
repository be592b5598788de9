use Rattle.w4_blit.proofs.DigitLaws.{high_both}
use Rattle.w4_blit.proofs.digits.high_bits.Goals as goal

pub returns : goal.returns
returns c = λ k hk. high_both c.args.values k hk
