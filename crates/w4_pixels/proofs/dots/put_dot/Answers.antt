use Rattle.std.proofs.Common.{◌≡◌, ◌+◌, ◌*◌, ◌/◌, ◌%◌, refl, arith}
use Rattle.w4_pixels.proofs.dots.put_dot.Goals as goal

pub returns : goal.returns
returns c =
    let a = c.args in
    let column : (160 * a.v + a.u) % 160 ≡ a.u = omega arith in
    let row : (160 * a.v + a.u) / 160 ≡ a.v = omega arith in
    rw (c.put_pixel.ensures, column, row) refl
