use Rattle.std.proofs.Common.{◌≡◌, ℤ, ◌+ℤ◌, to_z, of_z, w16, w32, ap, ◌∙◌, arith, FitsSigned}
use Rattle.std.proofs.lemmas.Int.{ints, to_z-of_z}
use Rattle.w4_wave.proofs.samples.sum.Goals as goal

pub overflow_add-result-3 : goal.overflow_add-result-3
overflow_add-result-3 c =
    omega (arith, ints, c.from.ensures, c.from-2.ensures, c.from-3.ensures, c.from-4.ensures)

-- a sum that fits
adds : (s x : ℤ) → FitsSigned w32 (s +ℤ x) → FitsSigned w32 x
    → to_z w32 (of_z w32 (s +ℤ to_z w32 (of_z w32 x))) ≡ s +ℤ x
adds s x whole part =
    ap (λ y. to_z w32 (of_z w32 (s +ℤ y))) (to_z-of_z w32 x part) ∙ to_z-of_z w32 (s +ℤ x) whole

sums : (a b c d : ℤ) → FitsSigned w16 a → FitsSigned w16 b → FitsSigned w16 c → FitsSigned w16 d →
    to_z w32 (of_z w32 (to_z w32 (of_z w32 (to_z w32 (of_z w32 (to_z w32 (of_z w32 a)
    +ℤ to_z w32 (of_z w32 b))) +ℤ to_z w32 (of_z w32 c))) +ℤ to_z w32 (of_z w32 d)))
    ≡ a +ℤ b +ℤ c +ℤ d
sums a b c d fa fb fc fd =
    ap (λ s. to_z w32 (of_z w32 (to_z w32 (of_z w32 (to_z w32 (of_z w32 (s
    +ℤ to_z w32 (of_z w32 b))) +ℤ to_z w32 (of_z w32 c))) +ℤ to_z w32 (of_z w32 d))))
    (to_z-of_z w32 a (omega (arith, ints, fa)))
    ∙ ap (λ s. to_z w32 (of_z w32 (to_z w32 (of_z w32 (s +ℤ to_z w32 (of_z w32 c)))
    +ℤ to_z w32 (of_z w32 d))))
    (adds a b (omega (arith, ints, fa, fb)) (omega (arith, ints, fb)))
    ∙ ap (λ s. to_z w32 (of_z w32 (s +ℤ to_z w32 (of_z w32 d))))
    (adds (a +ℤ b) c (omega (arith, ints, fa, fb, fc)) (omega (arith, ints, fc)))
    ∙ adds (a +ℤ b +ℤ c) d (omega (arith, ints, fa, fb, fc, fd)) (omega (arith, ints, fd))

pub returns : goal.returns
returns c =
    rw (
      c.from.ensures ∙ to_z-of_z w16 c.args.first c.ranges.first,
      c.from-2.ensures ∙ to_z-of_z w16 c.args.second c.ranges.second,
      c.from-3.ensures ∙ to_z-of_z w16 c.args.third c.ranges.third,
      c.from-4.ensures ∙ to_z-of_z w16 c.args.fourth c.ranges.fourth,
    )
    (sums c.args.first c.args.second c.args.third c.args.fourth
    c.ranges.first c.ranges.second c.ranges.third c.ranges.fourth)
