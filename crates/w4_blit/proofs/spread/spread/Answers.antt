use Rattle.std.proofs.Common.{ℕ, ◌/◌, ◌%◌, ◌^◌, ◌∙◌, ap}
use Rattle.w4_blit.proofs.SpreadLaws.{spread_entry}
use Rattle.w4_blit.proofs.spread.spread.Goals as goal

pub returns : goal.returns
returns c = λ k hk. ap (λ (n : ℕ). n / 4 ^ k % 4) c.wide_entry.ensures
    ∙ spread_entry c.args.byte k c.ranges.byte.fits hk
