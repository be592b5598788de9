use Rattle.std.proofs.Common.{ℕ, ◌≡◌, Some, ap, sym, arith, w32, to_z, of_z, ◌∙◌}
use Rattle.std.specs.Prelude.{ℤ}
use Rattle.std.proofs.lemmas.Int.{ints}
use Rattle.w4_defs.specs.Shapes.{apart, toward, moved}
use Rattle.w4_shapes.specs.Painted.{steps_painter}
use Rattle.w4_defs.proofs.PaintLaws.{paint_off, paint_ext}
use Rattle.w4_shapes.proofs.StepLaws.{steps_all, steps_none}
use Rattle.w4_shapes.proofs.lines.put_line.Goals as goal

pub invariant_of-steps : goal.invariant_of-steps
invariant_of-steps c =
    let ends = c.args.ends in
    let x1 : to_z w32 (of_z w32 ends.x1) ≡ ends.x1 = omega (arith, ints) in
    let y1 : to_z w32 (of_z w32 ends.y1) ≡ ends.y1 = omega (arith, ints) in
    let x2 : to_z w32 (of_z w32 ends.x2) ≡ ends.x2 = omega (arith, ints) in
    let y2 : to_z w32 (of_z w32 ends.y2) ≡ ends.y2 = omega (arith, ints) in
    record {
      some = c.if-first-end.true;
      few = simp (x1, y1, x2, y2) at c.line_steps-first.ensures.bound;
      on = simp (x1, y1, x2, y2) at c.line_steps-first.ensures.on;
    }

pub returns-then-first-end : goal.returns-then-first-end
returns-then-first-end c =
    let a = c.args in
    let ends = a.ends in
    let x1 : to_z w32 (of_z w32 ends.x1) ≡ ends.x1 = omega (arith, ints) in
    let y1 : to_z w32 (of_z w32 ends.y1) ≡ ends.y1 = omega (arith, ints) in
    let x2 : to_z w32 (of_z w32 ends.x2) ≡ ends.x2 = omega (arith, ints) in
    let y2 : to_z w32 (of_z w32 ends.y2) ≡ ends.y2 = omega (arith, ints) in
    let xs : ℕ → ℤ = λ t. toward ends.x1 ends.x2 (moved (apart ends.x1 ends.x2) (apart ends.y1 ends.y2) t) in
    let ys : ℕ → ℤ = λ t. toward ends.y1 ends.y2 (moved (apart ends.y1 ends.y2) (apart ends.x1 ends.x2) t) in
    let first = c.line_steps-first.result.0 in
    let end = c.line_steps-first.result.1 in
    let bound = simp (x1, y1, x2, y2) at c.line_steps-first.ensures.bound in
    let off = simp (x1, y1, x2, y2) at c.line_steps-first.ensures.off in
    c.put_steps.ensures ∙ paint_ext a.page.now _ _ c.told-page (λ u v hu hv.
    steps_all xs ys first end _ u v (Some a.index) bound (λ t out ht. off t u v hu hv out ht))

pub returns-else-first-end : goal.returns-else-first-end
returns-else-first-end c =
    let a = c.args in
    let ends = a.ends in
    let x1 : to_z w32 (of_z w32 ends.x1) ≡ ends.x1 = omega (arith, ints) in
    let y1 : to_z w32 (of_z w32 ends.y1) ≡ ends.y1 = omega (arith, ints) in
    let x2 : to_z w32 (of_z w32 ends.x2) ≡ ends.x2 = omega (arith, ints) in
    let y2 : to_z w32 (of_z w32 ends.y2) ≡ ends.y2 = omega (arith, ints) in
    let xs : ℕ → ℤ = λ t. toward ends.x1 ends.x2 (moved (apart ends.x1 ends.x2) (apart ends.y1 ends.y2) t) in
    let ys : ℕ → ℤ = λ t. toward ends.y1 ends.y2 (moved (apart ends.y1 ends.y2) (apart ends.x1 ends.x2) t) in
    let first = c.line_steps-first.result.0 in
    let end = c.line_steps-first.result.1 in
    let bound = simp (x1, y1, x2, y2) at c.line_steps-first.ensures.bound in
    let off = simp (x1, y1, x2, y2) at c.line_steps-first.ensures.off in
    let none : end ≡ first = omega (arith, c.line_steps-first.ensures.order) in
    paint_off a.page.now _ c.told-page c.fits-page (λ u v hu hv.
    sym (steps_all xs ys first end _ u v (Some a.index) bound (λ t out ht. off t u v hu hv out ht))
    ∙ ap (λ k. steps_painter xs ys first k (Some a.index) u v) none
    ∙ steps_none xs ys first u v (Some a.index))
