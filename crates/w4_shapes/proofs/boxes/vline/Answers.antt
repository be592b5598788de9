use Rattle.std.proofs.Common.{◌≡◌, refl, arith, w64, to_z, of_z}
use Rattle.std.specs.Prelude.{◌+ℤ◌}
use Rattle.std.proofs.lemmas.Int.{ints}
use Rattle.w4_shapes.proofs.boxes.vline.Goals as goal

pub returns : goal.returns
returns c =
    let a = c.args in
    let x : to_z w64 (of_z w64 c.from-x.result) ≡ a.x = omega (arith, ints) in
    let y : to_z w64 (of_z w64 c.from-y.result) ≡ a.y = omega (arith, ints) in
    let len : to_z w64 (of_z w64 c.from.result) ≡ a.len = omega (arith, ints) in
    let below : to_z w64 (of_z w64 (a.y +ℤ a.len)) ≡ a.y +ℤ a.len = omega (arith, ints) in
    rw (c.fill_column.ensures, x, y, len, below, c.entry_of.ensures.value) refl
