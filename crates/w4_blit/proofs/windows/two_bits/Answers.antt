use Rattle.std.proofs.Common.{ℕ, ◌∙◌, subst}
use Rattle.w4_blit.specs.Strips.{HasValue}
use Rattle.w4_blit.proofs.windows.two_bits.Goals as goal

pub returns : goal.returns
returns c = λ k hk.
    subst (λ (value : ℕ). HasValue c.bits_of.result k value) (c.reversed.ensures k hk ∙ c.window.ensures k hk)
    (c.bits_of.ensures k hk)
