use Rattle.std.proofs.Common.{◌≡◌, ℕ, ◌+◌, ◌*◌, sym, ap, ◌∙◌, refl, arith, w64, to_z, of_z, pos}
use Rattle.std.specs.Prelude.{◌-ℤ◌, nat_le}
use Rattle.std.proofs.lemmas.Int.{ints}
use Rattle.w4_defs.specs.Shapes.{aside}
use Rattle.w4_shapes.proofs.ovals.row_limit.Goals as goal

pub returns : goal.returns
returns c = λ s.
    let a = c.args in
    let cells = a.cells in
    let y : to_z w64 (of_z w64 c.from.result) ≡ cells.y = omega (arith, ints) in
    let t : to_z w64 a.t ≡ pos a.t = omega (arith, ints) in
    let before : to_z w64 (of_z w64 (pos a.t -ℤ pos 1)) ≡ pos a.t -ℤ pos 1 = omega (arith, ints) in
    let j : to_z w64 (of_z w64 ((pos a.t -ℤ pos 1) -ℤ cells.y)) ≡ (pos a.t -ℤ pos 1) -ℤ cells.y =
    omega (arith, ints) in
    let far : c.aside-far.result ≡ aside ((pos a.t -ℤ pos 1) -ℤ cells.y) cells.h =
    rw (c.aside-far.ensures.value, y, t, before, j) refl in
    let near : ℕ = aside ((pos s -ℤ pos 1) -ℤ cells.x) cells.w in
    sym (c.limit_at.ensures (near * near)
    ∙ ap (λ k. nat_le (near * near * (cells.h * cells.h) + k * k * (cells.w * cells.w))
    (cells.w * cells.w * (cells.h * cells.h))) far)
