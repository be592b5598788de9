use Rattle.std.proofs.Common.{◌≡◌, ◌+◌, ◌*◌, ◌/◌, ◌%◌, Some, arith}
use Rattle.std.proofs.lemmas.Bool.Decides.{nat_tests}
use Rattle.w4_defs.proofs.PaintLaws.{set_paint}
use Rattle.w4_pixels.specs.Packed.{dot_painter}
use Rattle.w4_pixels.proofs.PackedLaws.{dot_digit}
use Rattle.w4_pixels.proofs.dots.put_pixel.Goals as goal

pub returns : goal.returns
returns c =
    let a = c.args in
    let u = a.n % 160 in
    let v = a.n / 160 in
    let byte_is : 160 + a.n / 4 ≡ 160 + (40 * v + u / 4) = omega arith in
    let which : a.n % 4 ≡ u % 4 = omega arith in
    rw byte_is (set_paint a.page.now (dot_painter u v (Some a.index)) v (u / 4) c.with_digit.result
    c.told-page
    (omega arith) (omega arith) (omega arith) c.fits-page
    (λ k hk. dot_digit a.page.now u v k a.index _ (omega arith) (omega arith) hk
    (rw (byte_is, which) at c.with_digit.ensures k hk))
    (λ x y hx hy away. grind (arith, nat_tests)))
