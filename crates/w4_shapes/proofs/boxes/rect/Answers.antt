use Rattle.std.proofs.Common.{◌≡◌, arith, w64, to_z, of_z}
use Rattle.std.specs.Prelude.{◌+ℤ◌}
use Rattle.std.proofs.lemmas.Int.{ints}
use Rattle.w4_defs.proofs.PaintLaws.{paint_off, paint-paint}
use Rattle.w4_shapes.proofs.BoxTests.{no_columns, no_rows, outside_box}
use Rattle.w4_shapes.proofs.boxes.rect.Goals as goal
use Rattle.w4_shapes.proofs.boxes.rect.Goals.{else-w-gt0-via-then-w-gt0+else-h-gt0, else-w-gt0-via-else-w-gt0}

pub returns-then-h-gt0 : goal.returns-then-h-gt0
returns-then-h-gt0 c =
    let a = c.args in
    let x : to_z w64 (of_z w64 c.from-left.result) ≡ a.x = omega (arith, ints) in
    let y : to_z w64 (of_z w64 c.from-top.result) ≡ a.y = omega (arith, ints) in
    let w : to_z w64 (of_z w64 c.from.result) ≡ a.w = omega (arith, ints) in
    let h : to_z w64 (of_z w64 c.from-then-h-gt0.result) ≡ a.h = omega (arith, ints) in
    let right : to_z w64 (of_z w64 (a.x +ℤ a.w)) ≡ a.x +ℤ a.w = omega (arith, ints) in
    let bottom : to_z w64 (of_z w64 (a.y +ℤ a.h)) ≡ a.y +ℤ a.h = omega (arith, ints) in
    rw (
      c.outline.ensures,
      c.fill.ensures,
      x,
      y,
      w,
      h,
      right,
      bottom,
      c.entry_of.ensures.value,
      c.entry_of-then-h-gt0.ensures.value,
    )
    (paint-paint a.page.now _ _ c.told-page)

pub returns-else-w-gt0 : goal.returns-else-w-gt0
returns-else-w-gt0 c =
    let a = c.args in
    paint_off a.page.now _ c.told-page c.fits-page
    (λ u v hu hv. outside_box _ _ _ _ (elim c.else-w-gt0.branch [
      | else-w-gt0-via-then-w-gt0+else-h-gt0 w ↦ no_rows a.x a.y a.w a.h u v (omega (arith, ints))
      | else-w-gt0-via-else-w-gt0 w ↦ no_columns a.x a.y a.w a.h u v (omega (arith, ints))
    ]))
