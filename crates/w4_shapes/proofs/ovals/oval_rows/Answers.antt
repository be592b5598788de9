use Rattle.std.proofs.Common.{◌≡◌, ◌∙◌, ◌-◌, sym, ap, w32, to_z, of_z, pos, arith, ℕ, None}
use Rattle.std.specs.Prelude.{◌+ℤ◌, ◌-ℤ◌, int_le}
use Rattle.std.proofs.lemmas.Int.{ints}
use Rattle.w4_defs.specs.Shapes.{is_inside, oval_index}
use Rattle.w4_defs.proofs.PaintLaws.{paint_off, paint_ext}
use Rattle.w4_pixels.specs.Clipping.{clipped}
use Rattle.w4_pixels.proofs.ClippingLaws.{boxed_all, boxed_none, boxed_no_row}
use Rattle.w4_shapes.specs.OvalCells.{painter_of}
use Rattle.w4_shapes.proofs.CellTests.{kept_once, last_cell}
use Rattle.w4_shapes.proofs.ovals.oval_rows.Goals as goal
use Rattle.w4_shapes.proofs.ovals.oval_rows.Goals.{else-columns-via-then-columns+else-rows}
use Rattle.w4_shapes.proofs.ovals.oval_rows.Goals.{else-columns-via-else-columns}

pub put_rows-requires-clause-last_cell : goal.put_rows-requires-clause-last_cell
put_rows-requires-clause-last_cell c =
    let cells = c.args.cells in
    let bottom : ℕ = c.screen_part-rows.result.end in
    let y : to_z w32 (of_z w32 cells.y) ≡ cells.y = omega (arith, ints) in
    last_cell (cells.y +ℤ pos cells.h) bottom (omega arith)
    (c.screen_part-rows.ensures.end (bottom - 1) (omega arith)
    ∙ ap (λ z. int_le (z +ℤ pos cells.h) (pos (bottom - 1))) y)

pub returns-then-rows : goal.returns-then-rows
returns-then-rows c =
    let a = c.args in
    let cells = a.cells in
    let columns = c.screen_part-columns.result in
    let rows = c.screen_part-rows.result in
    let x : to_z w32 (of_z w32 cells.x) ≡ cells.x = omega (arith, ints) in
    let y : to_z w32 (of_z w32 cells.y) ≡ cells.y = omega (arith, ints) in
    c.put_rows.ensures ∙ paint_ext a.page.now _ _ c.told-page (λ u v hu hv.
    boxed_all (painter_of cells) cells.x (cells.x +ℤ pos cells.w) cells.y (cells.y +ℤ pos cells.h)
    columns.first columns.end rows.first rows.end u v
    (c.screen_part-columns.ensures.first u hu ∙ ap (λ z. int_le z (pos u)) x)
    (c.screen_part-columns.ensures.end u hu ∙ ap (λ z. int_le (z +ℤ pos cells.w) (pos u)) x)
    (c.screen_part-rows.ensures.first v hv ∙ ap (λ z. int_le z (pos v)) y)
    (c.screen_part-rows.ensures.end v hv ∙ ap (λ z. int_le (z +ℤ pos cells.h) (pos v)) y)
    ∙ kept_once (is_inside cells.x (cells.x +ℤ pos cells.w) cells.y (cells.y +ℤ pos cells.h) u v)
    (oval_index cells.colors cells.w cells.h (pos u -ℤ cells.x) (pos v -ℤ cells.y)))

pub returns-else-columns : goal.returns-else-columns
returns-else-columns c =
    let a = c.args in
    let cells = a.cells in
    let columns = c.screen_part-columns.result in
    let rows = c.screen_part-rows.result in
    let x : to_z w32 (of_z w32 cells.x) ≡ cells.x = omega (arith, ints) in
    let y : to_z w32 (of_z w32 cells.y) ≡ cells.y = omega (arith, ints) in
    let none : (u v : ℕ) → clipped (painter_of cells) columns.first columns.end rows.first rows.end u v ≡
    None =
    λ u v. elim c.else-columns.branch [
      | else-columns-via-then-columns+else-rows w ↦ boxed_no_row
          (painter_of cells) columns.first columns.end
          rows.first rows.end u v (omega arith)
      | else-columns-via-else-columns w ↦ boxed_none
          (painter_of cells) columns.first columns.end rows.first rows.end u v
          (omega arith)
    ] in
    paint_off a.page.now _ c.told-page c.fits-page (λ u v hu hv. sym (
    sym (none u v)
    ∙ boxed_all (painter_of cells) cells.x (cells.x +ℤ pos cells.w) cells.y (cells.y +ℤ pos cells.h)
    columns.first columns.end rows.first rows.end u v
    (c.screen_part-columns.ensures.first u hu ∙ ap (λ z. int_le z (pos u)) x)
    (c.screen_part-columns.ensures.end u hu ∙ ap (λ z. int_le (z +ℤ pos cells.w) (pos u)) x)
    (c.screen_part-rows.ensures.first v hv ∙ ap (λ z. int_le z (pos v)) y)
    (c.screen_part-rows.ensures.end v hv ∙ ap (λ z. int_le (z +ℤ pos cells.h) (pos v)) y)
    ∙ kept_once (is_inside cells.x (cells.x +ℤ pos cells.w) cells.y (cells.y +ℤ pos cells.h) u v)
    (oval_index cells.colors cells.w cells.h (pos u -ℤ cells.x) (pos v -ℤ cells.y))))
