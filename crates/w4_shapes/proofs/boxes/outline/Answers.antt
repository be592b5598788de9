use Rattle.std.proofs.Common.{◌≡◌, Some, arith, w64, pos, to_z, of_z}
use Rattle.std.specs.Prelude.{◌+ℤ◌, ◌-ℤ◌}
use Rattle.std.proofs.lemmas.Bool.Decides.{nat_tests}
use Rattle.std.proofs.lemmas.Int.{ints, to_z-of_z}
use Rattle.w4_defs.proofs.PaintLaws.{paint_off}
use Rattle.w4_shapes.proofs.BoxTests.{four_painted, four_sides}
use Rattle.w4_shapes.proofs.boxes.outline.Goals as goal

pub returns-in-Some : goal.returns-in-Some
returns-in-Some c =
    let a = c.args in
    let left : to_z w64 (of_z w64 a.left) ≡ a.left = to_z-of_z w64 a.left c.ranges.left in
    let right : to_z w64 (of_z w64 a.right) ≡ a.right = to_z-of_z w64 a.right c.ranges.right in
    let top : to_z w64 (of_z w64 a.top) ≡ a.top = to_z-of_z w64 a.top c.ranges.top in
    let bottom : to_z w64 (of_z w64 a.bottom) ≡ a.bottom = to_z-of_z w64 a.bottom c.ranges.bottom in
    let after_left : to_z w64 (of_z w64 (a.left +ℤ pos 1)) ≡ a.left +ℤ pos 1 = omega (arith, ints) in
    let after_top : to_z w64 (of_z w64 (a.top +ℤ pos 1)) ≡ a.top +ℤ pos 1 = omega (arith, ints) in
    let before_right : to_z w64 (of_z w64 (a.right -ℤ pos 1)) ≡ a.right -ℤ pos 1 = omega (arith, ints) in
    let before_bottom : to_z w64 (of_z w64 (a.bottom -ℤ pos 1)) ≡ a.bottom -ℤ pos 1 = omega (arith, ints) in
    rw (
      c.fill-in-Some-3.ensures,
      c.fill-in-Some-2.ensures,
      c.fill-in-Some.ensures,
      c.fill.ensures,
      left,
      right,
      top,
      bottom,
      after_left,
      after_top,
      before_right,
      before_bottom,
      c.in-Some.is,
    )
    (four_painted a.page.now _ _ _ _ _ c.told-page
    (λ u v hu hv. four_sides a.left a.right a.top a.bottom u v (Some c.in-Some.index) (omega (arith, ints))
    (omega (arith, ints))))

pub returns-in_default : goal.returns-in_default
returns-in_default c =
    paint_off c.args.page.now _ c.told-page c.fits-page (λ u v hu hv. grind (arith, nat_tests))
