use Rattle.std.proofs.Common.{arith}
use Rattle.std.proofs.lemmas.Bool.Decides.{nat_tests}
use Rattle.w4_defs.proofs.PaintLaws.{set_paint}
use Rattle.w4_pixels.specs.Packed.{quad_painter}
use Rattle.w4_pixels.proofs.PackedLaws.{quad_digit}
use Rattle.w4_pixels.proofs.quads.put_quad.Goals as goal

pub returns : goal.returns
returns c =
    let a = c.args in
    let quad = a.quad in
    rw c.address-at.ensures (set_paint a.page.now (quad_painter a.byte.q a.byte.row quad.first quad.second
    quad.third quad.fourth)
    a.byte.row a.byte.q c.joined.result c.told-page
    (omega arith) (omega arith) (omega arith) c.fits-page
    (λ k hk. quad_digit a.page.now a.byte.q a.byte.row k _ quad.first quad.second quad.third quad.fourth hk
    (rw c.address-at.ensures at c.joined.ensures k hk))
    (λ u v hu hv away. grind (arith, nat_tests)))
