use Rattle.std.proofs.Common.{◌≡◌, ℕ, ◌-◌, ◌/◌, ◌%◌, ◌^◌, ◌<◌, ◌∙◌, ap, subst, arith}
use Rattle.w4_blit.specs.Strips.{HasValue}
use Rattle.w4_blit.proofs.windows.two_bits_back.Goals as goal

pub returns : goal.returns
returns c = λ k hk.
    let there : 15 - k < 16 = omega arith in
    let back : k ≡ 15 - (15 - k) = omega arith in
    subst (λ (value : ℕ). HasValue c.bits_of.result k value)
    (ap (λ (j : ℕ). c.window.result / 4 ^ j % 4) back ∙ c.window.ensures (15 - k) there)
    (c.bits_of.ensures k hk)
