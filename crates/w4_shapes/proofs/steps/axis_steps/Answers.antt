use Rattle.std.proofs.Common.{◌+◌, ◌≤◌, ◌⊎◌, inl, inr, subst, sym, ap, ◌∙◌, arith, w32, pos, ℕ}
use Rattle.std.specs.Prelude.{◌+ℤ◌, ◌<ℤ◌, ◌≤ℤ◌}
use Rattle.std.proofs.lemmas.Bool.{cases_lt}
use Rattle.std.proofs.lemmas.Int.{ints, to_z-of_z}
use Rattle.w4_defs.specs.Shapes.{is_at, minor_step, toward}
use Rattle.w4_shapes.specs.Painted.{OnAxis}
use Rattle.w4_shapes.proofs.StepLaws.{each_step, lesser_step}
use Rattle.w4_shapes.proofs.steps.axis_steps.Goals as goal

pub returns-then-other-own-clause-few : goal.returns-then-other-own-clause-few
returns-then-other-own-clause-few c = λ h. elim (cases_lt c.far_step.result (c.args.own + 1)) [
  | inl some ↦ (
      let there = (c.far_step.ensures.value c.far_step.result (omega arith)).1 (omega arith) in
      c.far_step-then-other-own.ensures.few (c.far_step.result + 160) (omega (arith, ints, there)))
  | inr none ↦ omega arith
]

pub returns-then-other-own-clause-on : goal.returns-then-other-own-clause-on
returns-then-other-own-clause-on c = λ t low high.
    let a = c.args in
    let last : t ≤ a.own = omega arith in
    let from = (c.far_step.ensures.value t last).1 low in
    let to = (c.far_step-then-other-own.ensures.value t last).0 high in
    let there = simp (to_z-of_z w32 a.a c.ranges.a, to_z-of_z w32 a.b c.ranges.b) at
    (c.first_move-first.ensures.on t (omega (arith, ints, from)) (omega (arith, ints, to))) in
    subst (λ (k : ℕ). OnAxis (toward a.a a.b k)) (sym (each_step a.own a.other t c.if-other-own.true)) there

pub returns-then-other-own-clause-off : goal.returns-then-other-own-clause-off
returns-then-other-own-clause-off c = λ t u hu out ht.
    let a = c.args in
    let first = c.first_move-first.result in
    let last : t ≤ a.own = omega arith in
    let beyond : (pos t <ℤ first) ⊎ ((first +ℤ pos 160) ≤ℤ pos t) = elim out [
      | inl below ↦ inl (let before = (c.far_step.ensures.value t last).0 below in omega
          (arith, ints, before))
      | inr above ↦ inr (let after = (c.far_step-then-other-own.ensures.value t last).1 above in
          omega (arith, ints, after))
    ] in
    let off = simp (to_z-of_z w32 a.a c.ranges.a, to_z-of_z w32 a.b c.ranges.b) at
    (c.first_move-first.ensures.off t u hu beyond) in
    ap (λ k. is_at (toward a.a a.b k) u) (each_step a.own a.other t c.if-other-own.true) ∙ off

pub returns-else-other-own-clause-on : goal.returns-else-other-own-clause-on
returns-else-other-own-clause-on c = λ t low high.
    let a = c.args in
    let last : t ≤ a.other = omega arith in
    let far : ℕ = minor_step t a.own a.other in
    let from = c.reach.ensures.from t low last in
    let to = c.reach-else-other-own.ensures.before t high last in
    let there = simp (to_z-of_z w32 a.a c.ranges.a, to_z-of_z w32 a.b c.ranges.b) at
    (c.first_move-first.ensures.on far (omega (arith, ints, from)) (omega (arith, ints, to))) in
    subst (λ (k : ℕ). OnAxis (toward a.a a.b k))
    (sym (lesser_step a.own a.other t c.if-other-own.false)) there

pub returns-else-other-own-clause-off : goal.returns-else-other-own-clause-off
returns-else-other-own-clause-off c = λ t u hu out ht.
    let a = c.args in
    let first = c.first_move-first.result in
    let last : t ≤ a.other = omega arith in
    let far : ℕ = minor_step t a.own a.other in
    let beyond : (pos far <ℤ first) ⊎ ((first +ℤ pos 160) ≤ℤ pos far) = elim out [
      | inl below ↦ inl (let before = c.reach.ensures.before t below last in omega (arith, ints, before))
      | inr above ↦ inr (let after = c.reach-else-other-own.ensures.from t above last in
          omega (arith, ints, after))
    ] in
    let off = simp (to_z-of_z w32 a.a c.ranges.a, to_z-of_z w32 a.b c.ranges.b) at
    (c.first_move-first.ensures.off far u hu beyond) in
    ap (λ k. is_at (toward a.a a.b k) u) (lesser_step a.own a.other t c.if-other-own.false) ∙ off
