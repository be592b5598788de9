use Rattle.std.proofs.Common.{◌≡◌, ℕ, ◌+◌, ◌*◌, ◌/◌, ◌%◌, ◌^◌, ap, unwrap_or, ◌∙◌, arith}
use Rattle.w4_defs.proofs.PaintLaws.{below_four, four_digits}
use Rattle.w4_pixels.specs.Packed.{one_of_four}
use Rattle.w4_pixels.proofs.quads.joined.Goals as goal

pub returns : goal.returns
returns c = λ k hk.
    let quad = c.args.quad in
    let a = c.either-first.result in
    let b = c.either-second.result in
    let d = c.either-third.result in
    let e = c.either-fourth.result in
    let all = four_digits a b d e c.either-first.ensures.bound c.either-second.ensures.bound
    c.either-third.ensures.bound c.either-fourth.ensures.bound in
    let P : ℕ → Type 0 = λ j. (a + 4 * b + 16 * d + 64 * e) / 4 ^ j % 4
    ≡ unwrap_or (one_of_four j quad.first quad.second quad.third quad.fourth) (c.args.byte / 4 ^ j
    % 4)
    % 4 in
    let lowest : c.args.byte % 4 ≡ c.args.byte / 1 % 4 = omega arith in
    let highest : c.args.byte / 64 ≡ c.args.byte / 64 % 4 = omega (arith, c.ranges.byte.fits) in
    below_four P (all.0 ∙ c.either-first.ensures.value ∙ ap (λ (n : ℕ). unwrap_or quad.first n % 4) lowest)
    (all.1 ∙ c.either-second.ensures.value) (all.2 ∙ c.either-third.ensures.value)
    (all.3 ∙ c.either-fourth.ensures.value ∙ ap (λ (n : ℕ). unwrap_or quad.fourth n % 4) highest) k hk
