use Rattle.std.proofs.Common.{Some, arith}
use Rattle.w4_defs.specs.Framebuffer.{Painter}
use Rattle.w4_defs.proofs.PaintLaws.{paint_off}
use Rattle.w4_pixels.proofs.ClippingLaws.{boxed_none}
use Rattle.w4_pixels.proofs.runs.fill.Goals as goal

pub returns-else-first-end : goal.returns-else-first-end
returns-else-first-end c =
    let f : Painter = λ a b. Some c.args.index in
    let columns = c.args.columns in
    let rows = c.args.rows in
    paint_off c.args.page.now _ c.told-page c.fits-page
    (λ u v hu hv. boxed_none f columns.first columns.end rows.first rows.end u v (omega arith))
