use Rattle.std.proofs.Common.{◌≡◌, refl, sym, arith, w32, to_z, of_z, pos}
use Rattle.std.specs.Prelude.{unsigned_abs}
use Rattle.std.proofs.lemmas.Int.{ints, to_z-of_z}
use Rattle.w4_defs.specs.Framebuffer.{paint}
use Rattle.w4_defs.specs.Shapes.{oval_painter}
use Rattle.w4_defs.proofs.PaintLaws.{paint_off}
use Rattle.w4_shapes.proofs.BoxTests.{no_columns, no_rows}
use Rattle.w4_shapes.proofs.CellTests.{gone, as_natural}
use Rattle.w4_shapes.proofs.ovals.oval.Goals as goal
use Rattle.w4_shapes.proofs.ovals.oval.Goals.{else-w-gt0-via-then-w-gt0+else-h-gt0, else-w-gt0-via-else-w-gt0}

pub returns-then-h-gt0 : goal.returns-then-h-gt0
returns-then-h-gt0 c =
    let a = c.args in
    let x : to_z w32 (of_z w32 a.x) ≡ a.x = to_z-of_z w32 a.x c.ranges.x in
    let y : to_z w32 (of_z w32 a.y) ≡ a.y = to_z-of_z w32 a.y c.ranges.y in
    let w : to_z w32 (of_z w32 a.w) ≡ a.w = to_z-of_z w32 a.w c.ranges.w in
    let h : to_z w32 (of_z w32 a.h) ≡ a.h = to_z-of_z w32 a.h c.ranges.h in
    let wide : pos (unsigned_abs a.w) ≡ a.w = as_natural a.w (omega (arith, ints)) in
    let high : pos (unsigned_abs a.h) ≡ a.h = as_natural a.h (omega (arith, ints)) in
    let painted : c.oval_rows.new.page ≡ paint a.page.now
    (oval_painter a.colors (to_z w32 (of_z w32 a.x)) (to_z w32 (of_z w32 a.y))
    (pos (unsigned_abs (to_z w32 (of_z w32 a.w)))) (pos (unsigned_abs (to_z w32 (of_z w32 a.h))))) =
    c.oval_rows.ensures in
    rw (painted, x, y, w, h, wide, high) (refl {a = paint a.page.now (oval_painter a.colors a.x a.y a.w a.h)})

pub returns-else-w-gt0 : goal.returns-else-w-gt0
returns-else-w-gt0 c =
    let a = c.args in
    paint_off a.page.now _ c.told-page c.fits-page (λ u v hu hv. sym (gone _ _ (elim c.else-w-gt0.branch [
      | else-w-gt0-via-then-w-gt0+else-h-gt0 w ↦ no_rows a.x a.y a.w a.h u v (omega (arith, ints))
      | else-w-gt0-via-else-w-gt0 w ↦ no_columns a.x a.y a.w a.h u v (omega (arith, ints))
    ])))
