use Rattle.std.proofs.Common.{◌≡◌, arith, w64, pos, to_z, of_z}
use Rattle.std.specs.Prelude.{◌+ℤ◌}
use Rattle.std.proofs.lemmas.Int.{ints}
use Rattle.w4_defs.specs.Colours.{palette_index}
use Rattle.w4_defs.proofs.PaintLaws.{paint_ext}
use Rattle.w4_shapes.proofs.BoxTests.{row_box}
use Rattle.w4_shapes.proofs.boxes.hline.Goals as goal

pub returns : goal.returns
returns c =
    let a = c.args in
    let x : to_z w64 (of_z w64 c.from-x.result) ≡ a.x = omega (arith, ints) in
    let y : to_z w64 (of_z w64 c.from-y.result) ≡ a.y = omega (arith, ints) in
    let len : to_z w64 (of_z w64 c.from.result) ≡ a.len = omega (arith, ints) in
    let right : to_z w64 (of_z w64 (a.x +ℤ a.len)) ≡ a.x +ℤ a.len = omega (arith, ints) in
    let below : to_z w64 (of_z w64 (a.y +ℤ pos 1)) ≡ a.y +ℤ pos 1 = omega (arith, ints) in
    rw (c.fill.ensures, x, y, len, right, below, c.entry_of.ensures.value)
    (paint_ext a.page.now _ _ c.told-page
    (λ u v hu hv. row_box a.x (a.x +ℤ a.len) a.y u v (palette_index a.colors 1)))
