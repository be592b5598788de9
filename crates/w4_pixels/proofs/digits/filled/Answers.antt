use Rattle.std.proofs.Common.{◌≡◌, ℕ, ◌*◌, ◌/◌, ◌%◌, ◌^◌, arith}
use Rattle.w4_defs.proofs.PaintLaws.{below_four}
use Rattle.w4_pixels.proofs.digits.filled.Goals as goal

pub returns : goal.returns
returns c = λ k hk.
    let index = c.number.result in
    rw (← c.number.ensures.value) (
    let P : ℕ → Type 0 = λ j. 85 * index / 4 ^ j % 4 ≡ index in
    let e0 : 85 * index / 1 % 4 ≡ index = omega arith in
    let e1 : 85 * index / 4 % 4 ≡ index = omega arith in
    let e2 : 85 * index / 16 % 4 ≡ index = omega arith in
    let e3 : 85 * index / 64 % 4 ≡ index = omega arith in
    below_four P e0 e1 e2 e3 k hk)
