use Rattle.std.proofs.Common.{◌-◌, ◌<◌, ◌∙◌, arith}
use Rattle.w4_blit.proofs.WindowLaws.{high_of_one, low_of_one}
use Rattle.w4_blit.proofs.windows.one_bit_back.Goals as goal

pub returns : goal.returns
returns c = λ k hk.
    let there : 15 - k < 16 = omega arith in (
      c.reversed.ensures k hk ∙ c.spread_window.ensures (15 - k) there ∙ low_of_one _,
      high_of_one _ k,
    )
