use Rattle.std.proofs.Common.{◌≡◌, ℕ, ℤ, pos, negsuc, suc, ◌*◌, ◌/◌, ◌≤◌, ◌*ℤ◌, ◌≤ℤ◌, int_div, to_z, of_z}
use Rattle.std.proofs.Common.{w16, w32, sym, ap, ◌∙◌, subst, arith, FitsSigned}
use Rattle.std.proofs.lemmas.Int.{ints, to_z-of_z}
use Rattle.std.proofs.lemmas.Nat.{mul-le}
use Rattle.std.proofs.Math.Nat.{div-le_of_le-mul}
use Rattle.w4_defs.proofs.ToneLaws.{neg_part}
use Rattle.w4_wave.proofs.oscillators.triangle.Goals as goal

part : (amplitude n : ℕ) → amplitude ≤ 20400 → n ≤ 11025 → amplitude * n / 11025 ≤ 20400
part amplitude n most high =
    div-le_of_le-mul 11025 {m = amplitude * n} {n = 20400} (mul-le amplitude n 20400 11025 most high)

product_fits : (amplitude : ℕ) (height : ℤ) → amplitude ≤ 20400 → negsuc 11024 ≤ℤ height → height ≤ℤ pos 11025
    → FitsSigned w32 (pos amplitude *ℤ height)
product_fits amplitude (pos n) most low high =
    let small = mul-le amplitude n 20400 11025 most (omega (arith, ints, high)) in
    omega (arith, ints, small)
product_fits amplitude (negsuc n) most low high =
    let small = mul-le amplitude (suc n) 20400 11025 most (omega (arith, ints, low)) in
    omega (arith, ints, small)

quotient_fits : (amplitude : ℕ) (height : ℤ) → amplitude ≤ 20400
    → negsuc 11024 ≤ℤ height → height ≤ℤ pos 11025
    → FitsSigned w16 (int_div (pos amplitude *ℤ height) (pos 11025))
quotient_fits amplitude (pos n) most low high =
    let small = part amplitude n most (omega (arith, ints, high)) in
    omega (arith, ints, small)
quotient_fits amplitude (negsuc n) most low high =
    let small = part amplitude (suc n) most (omega (arith, ints, low)) in
    subst (λ z. FitsSigned w16 z) (sym (neg_part (amplitude * suc n) 11025)) (omega (arith, ints, small))

-- the code's product and quotient, each of which fits
computed : (amplitude : ℕ) (height : ℤ) → amplitude ≤ 20400 → negsuc 11024 ≤ℤ height → height ≤ℤ pos 11025 →
    to_z w16 (of_z w16 (to_z w32 (of_z w32 (int_div
    (to_z w32 (of_z w32 (to_z w32 (of_z w32 (pos amplitude)) *ℤ to_z w32 (of_z w32 height)))) (pos 11025)))))
    ≡ int_div (pos amplitude *ℤ height) (pos 11025)
computed amplitude height most low high =
    let product = pos amplitude *ℤ height in
    let quotient = int_div product (pos 11025) in
    let fits : FitsSigned w16 quotient = quotient_fits amplitude height most low high in
    let wide : FitsSigned w32 quotient = omega (arith, ints, fits) in
    ap (λ a. to_z w16 (of_z w16 (to_z w32 (of_z w32 (int_div
    (to_z w32 (of_z w32 (a *ℤ to_z w32 (of_z w32 height)))) (pos 11025))))))
    (to_z-of_z w32 (pos amplitude) (omega (arith, ints)))
    ∙ ap (λ h. to_z w16 (of_z w16 (to_z w32 (of_z w32 (int_div
    (to_z w32 (of_z w32 (pos amplitude *ℤ h))) (pos 11025))))))
    (to_z-of_z w32 height (omega (arith, ints)))
    ∙ ap (λ p. to_z w16 (of_z w16 (to_z w32 (of_z w32 (int_div p (pos 11025))))))
    (to_z-of_z w32 product (product_fits amplitude height most low high))
    ∙ ap (λ q. to_z w16 (of_z w16 q)) (to_z-of_z w32 quotient wide)
    ∙ to_z-of_z w16 quotient fits

pub returns : goal.returns
returns c =
    let amplitude = 80 * c.args.level in
    let height = c.triangle_height.result in
    let level : to_z w32 (of_z w32 c.from-amplitude.result) ≡ pos c.args.level =
    omega (arith, ints, c.from-amplitude.ensures, c.ranges.level) in
    ap (λ l. to_z w16 (of_z w16 (to_z w32 (of_z w32 (int_div
    (to_z w32 (of_z w32 (to_z w32 (of_z w32 (pos 80 *ℤ l)) *ℤ to_z w32 (of_z w32 height)))) (pos 11025))))))
    level
    ∙ computed amplitude height (omega (arith, c.ranges.level))
    c.triangle_height.ensures.low c.triangle_height.ensures.high
    ∙ ap (λ h. int_div (pos amplitude *ℤ h) (pos 11025)) c.triangle_height.ensures.height
