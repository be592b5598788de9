use Rattle.std.proofs.Common.{◌∙◌}
use Rattle.w4_blit.proofs.WindowLaws.{high_of_one, low_of_one}
use Rattle.w4_blit.proofs.windows.one_bit.Goals as goal

pub returns : goal.returns
returns c = λ k hk. (c.spread_window.ensures k hk ∙ low_of_one _, high_of_one _ k)
