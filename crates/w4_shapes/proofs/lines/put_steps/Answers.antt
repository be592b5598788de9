use Rattle.std.proofs.Common.{ℕ, ◌≡◌, ◌+◌, ◌-◌, ◌*◌, ◌/◌, ◌%◌, ◌<◌, min, max, Some, ap, subst, sym, arith}
use Rattle.std.proofs.Common.{rules, w32, w64, to_z, of_z, ◌∙◌}
use Rattle.std.specs.Prelude.{ℤ}
use Rattle.std.specs.Option.{option_or}
use Rattle.std.proofs.lemmas.Int.{ints}
use Rattle.w4_defs.specs.Framebuffer.{paint}
use Rattle.w4_defs.specs.Shapes.{apart, toward, moved}
use Rattle.w4_defs.proofs.PaintLaws.{paint_off, paint_step}
use Rattle.w4_pixels.specs.Packed.{dot_painter}
use Rattle.w4_shapes.specs.Painted.{IsPixel, OnAxis, steps_painter}
use Rattle.w4_shapes.proofs.CourseLaws.{next_pixel, slope_moved}
use Rattle.w4_shapes.proofs.StepLaws.{dot_point, lesser_moved, lesser_small, one_more_step, steps_more}
use Rattle.w4_shapes.proofs.StepLaws.{steps_none}
use Rattle.w4_shapes.proofs.lines.put_steps.Goals as goal

pub axis_at-x-requires : goal.axis_at-x-requires
axis_at-x-requires c = λ h.
    lesser_moved c.slope_at-slope.result.moved c.slope_at-slope.result.rest c.args.steps.first
    c.min-less.result
    c.max-most.result c.distance-wide.result c.distance-high.result h
    (omega (arith, c.min-less.ensures)) (omega (arith, c.max-most.ensures, c.max.ensures))
    c.slope_at-slope.ensures.sum c.slope_at-slope.ensures.rest

pub axis_at-y-requires : goal.axis_at-y-requires
axis_at-y-requires c = λ h.
    lesser_moved c.slope_at-slope.result.moved c.slope_at-slope.result.rest c.args.steps.first
    c.min-less.result
    c.max-most.result c.distance-high.result c.distance-wide.result h
    (omega (arith, c.min-less.ensures)) (omega (arith, c.max-most.ensures, c.max.ensures))
    c.slope_at-slope.ensures.sum c.slope_at-slope.ensures.rest

pub number_of-number-requires-clause-column : goal.number_of-number-requires-clause-column
number_of-number-requires-clause-column c =
    let a = c.args in
    let ends = a.steps.ends in
    let x1_bits : to_z w32 (of_z w32 ends.x1) ≡ ends.x1 = omega (arith, ints) in
    let x2_bits : to_z w32 (of_z w32 ends.x2) ≡ ends.x2 = omega (arith, ints) in
    let y1_bits : to_z w32 (of_z w32 ends.y1) ≡ ends.y1 = omega (arith, ints) in
    let y2_bits : to_z w32 (of_z w32 ends.y2) ≡ ends.y2 = omega (arith, ints) in
    let wide : c.distance-wide.result ≡ apart ends.x1 ends.x2 =
    simp (x1_bits, x2_bits) at c.distance-wide.ensures in
    let tall : c.distance-high.result ≡ apart ends.y1 ends.y2 =
    simp (y1_bits, y2_bits) at c.distance-high.ensures in
    let x : c.axis_at-x.result ≡ toward ends.x1 ends.x2
    (moved c.distance-wide.result c.distance-high.result a.steps.first) =
    simp (x1_bits, x2_bits) at c.axis_at-x.ensures in
    let bits : to_z w64 (of_z w64 c.axis_at-x.result) ≡ c.axis_at-x.result = omega (arith, ints) in
    let there : OnAxis (toward ends.x1 ends.x2
    (moved c.distance-wide.result c.distance-high.result a.steps.first)) =
    rw (wide, tall) (a.steps.on a.steps.first (omega arith) a.steps.some).0 in
    subst (λ (z : ℤ). OnAxis z) (sym (bits ∙ x)) there

pub number_of-number-requires-clause-row : goal.number_of-number-requires-clause-row
number_of-number-requires-clause-row c =
    let a = c.args in
    let ends = a.steps.ends in
    let x1_bits : to_z w32 (of_z w32 ends.x1) ≡ ends.x1 = omega (arith, ints) in
    let x2_bits : to_z w32 (of_z w32 ends.x2) ≡ ends.x2 = omega (arith, ints) in
    let y1_bits : to_z w32 (of_z w32 ends.y1) ≡ ends.y1 = omega (arith, ints) in
    let y2_bits : to_z w32 (of_z w32 ends.y2) ≡ ends.y2 = omega (arith, ints) in
    let wide : c.distance-wide.result ≡ apart ends.x1 ends.x2 =
    simp (x1_bits, x2_bits) at c.distance-wide.ensures in
    let tall : c.distance-high.result ≡ apart ends.y1 ends.y2 =
    simp (y1_bits, y2_bits) at c.distance-high.ensures in
    let y : c.axis_at-y.result ≡ toward ends.y1 ends.y2
    (moved c.distance-high.result c.distance-wide.result a.steps.first) =
    simp (y1_bits, y2_bits) at c.axis_at-y.ensures in
    let bits : to_z w64 (of_z w64 c.axis_at-y.result) ≡ c.axis_at-y.result = omega (arith, ints) in
    let there : OnAxis (toward ends.y1 ends.y2
    (moved c.distance-high.result c.distance-wide.result a.steps.first)) =
    rw (tall, wide) (a.steps.on a.steps.first (omega arith) a.steps.some).1 in
    subst (λ (z : ℤ). OnAxis z) (sym (bits ∙ y)) there

pub loop-step-init : goal.loop-step-init
loop-step-init c =
    let a = c.args in
    let ends = a.steps.ends in
    let x1_bits : to_z w32 (of_z w32 ends.x1) ≡ ends.x1 = omega (arith, ints) in
    let x2_bits : to_z w32 (of_z w32 ends.x2) ≡ ends.x2 = omega (arith, ints) in
    let y1_bits : to_z w32 (of_z w32 ends.y1) ≡ ends.y1 = omega (arith, ints) in
    let y2_bits : to_z w32 (of_z w32 ends.y2) ≡ ends.y2 = omega (arith, ints) in
    let wide : c.distance-wide.result ≡ apart ends.x1 ends.x2 =
    simp (x1_bits, x2_bits) at c.distance-wide.ensures in
    let tall : c.distance-high.result ≡ apart ends.y1 ends.y2 =
    simp (y1_bits, y2_bits) at c.distance-high.ensures in
    let x : c.axis_at-x.result ≡ toward ends.x1 ends.x2
    (moved c.distance-wide.result c.distance-high.result a.steps.first) =
    simp (x1_bits, x2_bits) at c.axis_at-x.ensures in
    let y : c.axis_at-y.result ≡ toward ends.y1 ends.y2
    (moved c.distance-high.result c.distance-wide.result a.steps.first) =
    simp (y1_bits, y2_bits) at c.axis_at-y.ensures in
    let x_bits : to_z w64 (of_z w64 c.axis_at-x.result) ≡ c.axis_at-x.result = omega (arith, ints) in
    let y_bits : to_z w64 (of_z w64 c.axis_at-y.result) ≡ c.axis_at-y.result = omega (arith, ints) in
    let is_pixel : IsPixel (to_z w64 (of_z w64 c.axis_at-x.result)) (to_z w64 (of_z w64 c.axis_at-y.result))
    c.number_of-number.result = c.number_of-number.ensures in
    let column : IsPixel
    (toward ends.x1 ends.x2 (moved c.distance-wide.result c.distance-high.result a.steps.first))
    (to_z w64 (of_z w64 c.axis_at-y.result)) c.number_of-number.result =
    subst (λ (z : ℤ). IsPixel z (to_z w64 (of_z w64 c.axis_at-y.result)) c.number_of-number.result)
    (x_bits ∙ x) is_pixel
    in
    let both : IsPixel (toward ends.x1 ends.x2 (moved c.distance-wide.result c.distance-high.result
    a.steps.first))
    (toward ends.y1 ends.y2 (moved c.distance-high.result c.distance-wide.result a.steps.first))
    c.number_of-number.result =
    subst (λ (z : ℤ). IsPixel
    (toward ends.x1 ends.x2 (moved c.distance-wide.result c.distance-high.result a.steps.first)) z
    c.number_of-number.result) (y_bits ∙ y) column in
    let here : IsPixel
    (toward ends.x1 ends.x2 (moved (apart ends.x1 ends.x2) (apart ends.y1 ends.y2) a.steps.first))
    (toward ends.y1 ends.y2 (moved (apart ends.y1 ends.y2) (apart ends.x1 ends.x2) a.steps.first))
    c.number_of-number.result =
    rw (sym wide, sym tall) both in
    record {
      painted = paint_off a.page.now _ c.told-page c.fits-page
          (λ u v hu hv. steps_none _ _ a.steps.first u v (Some a.index));
      sum = c.slope_at-slope.ensures.sum;
      rest = c.slope_at-slope.ensures.rest;
      pixel_is = λ h. here;
    }

pub put_pixel-requires : goal.put_pixel-requires
put_pixel-requires c = (c.loop-step.invariant.pixel_is c.loop-step-test.true).0

pub next_number-number-requires : goal.next_number-number-requires
next_number-number-requires c = (c.loop-step.invariant.pixel_is c.loop-step-test.true).0

pub next_slope-next-requires-clause-moved : goal.next_slope-next-requires-clause-moved
next_slope-next-requires-clause-moved c =
    let a = c.args in
    let ends = a.steps.ends in
    let x1_bits : to_z w32 (of_z w32 ends.x1) ≡ ends.x1 = omega (arith, ints) in
    let x2_bits : to_z w32 (of_z w32 ends.x2) ≡ ends.x2 = omega (arith, ints) in
    let y1_bits : to_z w32 (of_z w32 ends.y1) ≡ ends.y1 = omega (arith, ints) in
    let y2_bits : to_z w32 (of_z w32 ends.y2) ≡ ends.y2 = omega (arith, ints) in
    let wide : c.distance-wide.result ≡ apart ends.x1 ends.x2 =
    simp (x1_bits, x2_bits) at c.distance-wide.ensures in
    let tall : c.distance-high.result ≡ apart ends.y1 ends.y2 =
    simp (y1_bits, y2_bits) at c.distance-high.ensures in
    let small = lesser_small c.loop-step.step c.min-less.result c.max-most.result c.loop-step.slope.moved
    c.loop-step.slope.rest (omega (arith, wide, tall, a.steps.few, c.max-most.ensures, c.max.ensures))
    c.loop-step.invariant.rest c.loop-step.invariant.sum in
    omega (arith, small, c.min-less.ensures)

pub loop-step-preserved : goal.loop-step-preserved
loop-step-preserved c =
    let a = c.args in
    let ends = a.steps.ends in
    let x1_bits : to_z w32 (of_z w32 ends.x1) ≡ ends.x1 = omega (arith, ints) in
    let x2_bits : to_z w32 (of_z w32 ends.x2) ≡ ends.x2 = search rules in
    let y1_bits : to_z w32 (of_z w32 ends.y1) ≡ ends.y1 = search rules in
    let y2_bits : to_z w32 (of_z w32 ends.y2) ≡ ends.y2 = omega (arith, ints) in
    let first = a.steps.first in
    let step = c.loop-step.step in
    let xs : ℕ → ℤ = λ t. toward ends.x1 ends.x2 (moved (apart ends.x1 ends.x2) (apart ends.y1 ends.y2) t) in
    let ys : ℕ → ℤ = λ t. toward ends.y1 ends.y2 (moved (apart ends.y1 ends.y2) (apart ends.x1 ends.x2) t) in
    let wide : c.distance-wide.result ≡ apart ends.x1 ends.x2 =
    simp (x1_bits, x2_bits) at c.distance-wide.ensures in
    let tall : c.distance-high.result ≡ apart ends.y1 ends.y2 =
    simp (y1_bits, y2_bits) at c.distance-high.ensures in
    let before : c.loop-step.page ≡ paint a.page.now (steps_painter xs ys first step (Some a.index)) =
    c.loop-step.invariant.painted in
    let here : IsPixel (xs step) (ys step) c.loop-step.number =
    c.loop-step.invariant.pixel_is c.loop-step-test.true in
    let less : c.min-less.result ≡ min (apart ends.x1 ends.x2) (apart ends.y1 ends.y2) =
    omega (arith, wide, tall, c.min-less.ensures) in
    let most : c.max-most.result ≡ max (max (apart ends.x1 ends.x2) (apart ends.y1 ends.y2)) 1 =
    omega (arith, wide, tall, c.max-most.ensures, c.max.ensures) in
    let sum : c.next_slope-next.result.moved * c.max-most.result + c.next_slope-next.result.rest
    ≡ (step + 1) * c.min-less.result + (c.max-most.result - 1) / 2 = omega (
      arith,
      c.next_slope-next.ensures.sum,
      c.loop-step.invariant.sum,
      one_more_step step c.min-less.result,
    ) in
    let painted : c.put_pixel.new.page
    ≡ paint a.page.now (steps_painter xs ys first (step + 1) (Some a.index)) =
    c.put_pixel.ensures
    ∙ ap (λ p. paint p (dot_painter (c.loop-step.number % 160) (c.loop-step.number / 160) (Some a.index)))
    before
    ∙ paint_step a.page.now _ _ _ c.told-page (λ u v hu hv.
    ap (λ o. option_or o (steps_painter xs ys first step (Some a.index) u v))
    (dot_point (c.loop-step.number % 160) (c.loop-step.number / 160) (xs step) (ys step) (Some a.index) u v
    here.1 here.2)
    ∙ steps_more xs ys first step u v (Some a.index) c.loop-step.auto.step) in
    let own : ℕ = min (apart ends.x1 ends.x2) (apart ends.y1 ends.y2) in
    let other : ℕ = max (apart ends.x1 ends.x2) (apart ends.y1 ends.y2) in
    let now : c.loop-step.slope.moved ≡ moved own other step =
    slope_moved c.loop-step.slope.moved c.loop-step.slope.rest step c.min-less.result c.max-most.result
    own other (omega arith) (omega arith) (omega arith) (omega arith)
    c.loop-step.invariant.sum c.loop-step.invariant.rest in
    let pixel_is : step + 1 < a.steps.end → IsPixel (xs (step + 1)) (ys (step + 1))
    c.next_number-number.result = λ
    h.
    (
    let later : c.next_slope-next.result.moved ≡ moved own other (step + 1) =
    slope_moved c.next_slope-next.result.moved c.next_slope-next.result.rest (step + 1) c.min-less.result
    c.max-most.result own other (omega arith) (omega arith) (omega arith) (omega arith) sum
    c.next_slope-next.ensures.rest in
    let on = a.steps.on (step + 1) (omega arith) h in
    let straight : to_z w64 (of_z w64 c.course_of-course.result.straight)
    ≡ c.course_of-course.result.straight =
    omega (arith, ints) in
    let aside : to_z w64 (of_z w64 c.course_of-course.result.aside) ≡ c.course_of-course.result.aside =
    omega (arith, ints) in
    next_pixel ends.x1 ends.x2 ends.y1 ends.y2 (apart ends.x1 ends.x2) (apart ends.y1 ends.y2) step
    c.loop-step.slope.moved c.next_slope-next.result.moved c.loop-step.number c.next_number-number.result
    c.course_of-course.result.straight c.course_of-course.result.aside ends.down now later
    c.next_slope-next.ensures.one here on.0 on.1
    (λ low. simp (x1_bits, x2_bits) at
    (c.course_of-course.ensures.flat (omega (arith, wide, tall))))
    (λ high. c.course_of-course.ensures.steep (omega (arith, wide, tall)))
    (simp (x1_bits, x2_bits) at
    c.course_of-course.ensures.aside)
    (λ same at_least. c.next_number-number.ensures.straight same at_least)
    (λ more. c.next_number-number.ensures.aside more)) in
    record {
      painted = painted;
      sum = sum;
      rest = c.next_slope-next.ensures.rest;
      pixel_is = pixel_is;
    }

pub returns : goal.returns
returns c =
    let a = c.args in
    let ends = a.steps.ends in
    let xs : ℕ → ℤ = λ t. toward ends.x1 ends.x2 (moved (apart ends.x1 ends.x2) (apart ends.y1 ends.y2) t) in
    let ys : ℕ → ℤ = λ t. toward ends.y1 ends.y2 (moved (apart ends.y1 ends.y2) (apart ends.x1 ends.x2) t) in
    let last : c.loop-step.step ≡ a.steps.end = omega arith in
    let before : c.loop-step.page ≡ paint a.page.now
    (steps_painter xs ys a.steps.first c.loop-step.step (Some a.index)) =
    c.loop-step.invariant.painted in
    before ∙ ap (λ k. paint a.page.now (steps_painter xs ys a.steps.first k (Some a.index))) last
