use Rattle.std.proofs.Common.{◌≡◌, refl, arith, w64, to_z, of_z, pos}
use Rattle.std.specs.Prelude.{◌-ℤ◌}
use Rattle.std.proofs.lemmas.Int.{ints}
use Rattle.w4_shapes.proofs.ovals.within.Goals as goal

pub returns : goal.returns
returns c =
    let a = c.args in
    let x : to_z w64 (of_z w64 c.from.result) ≡ a.cells.x = omega (arith, ints) in
    let s : to_z w64 a.s ≡ pos a.s = omega (arith, ints) in
    let before : to_z w64 (of_z w64 (pos a.s -ℤ pos 1)) ≡ pos a.s -ℤ pos 1 = omega (arith, ints) in
    let i : to_z w64 (of_z w64 ((pos a.s -ℤ pos 1) -ℤ a.cells.x)) ≡ (pos a.s -ℤ pos 1) -ℤ a.cells.x =
    omega (arith, ints) in
    rw (c.aside-far.ensures.value, x, s, before, i) refl
