use Rattle.std.proofs.Common.{Some, arith}
use Rattle.std.proofs.lemmas.Bool.Decides.{nat_tests}
use Rattle.w4_defs.proofs.PaintLaws.{set_paint}
use Rattle.w4_pixels.specs.Packed.{masked_painter}
use Rattle.w4_pixels.proofs.PackedLaws.{mask_digit}
use Rattle.w4_pixels.proofs.runs.put_masked.Goals as goal

pub returns : goal.returns
returns c =
    let a = c.args in
    rw c.address-at.ensures (set_paint a.page.now (masked_painter a.byte.q a.byte.row a.mask (Some a.index))
    a.byte.row a.byte.q
    c.masked.result
    c.told-page
    (omega arith) (omega arith) (omega arith) c.fits-page
    (λ k hk. mask_digit a.page.now a.byte.q a.byte.row a.mask a.index k _ (omega arith) hk (rw
    c.address-at.ensures at c.masked.ensures k hk))
    (λ u v hu hv away. grind (arith, nat_tests)))
