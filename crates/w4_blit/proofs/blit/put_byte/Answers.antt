use Rattle.std.proofs.Common.{◌+◌, ◌∙◌}
use Rattle.w4_defs.proofs.PaintLaws.{paint_ext}
use Rattle.w4_pixels.specs.Clipping.{clipped}
use Rattle.w4_pixels.proofs.ClippingLaws.{four_asked}
use Rattle.w4_blit.specs.FramebufferCopy.{with_kept}
use Rattle.w4_blit.specs.Walks.{walk_painter}
use Rattle.w4_blit.proofs.blit.put_byte.Goals as goal

pub returns : goal.returns
returns c =
    let row = c.args.row in
    let f = clipped (walk_painter (with_kept c.args.page.now c.args.drawn.now.kept)
    c.args.drawn.now.sprite.now
    row.walk row.x) row.columns.first row.columns.end row.v (row.v + 1) in
    c.put_quad.ensures ∙ paint_ext c.args.page.now _ _ c.told-page
    (λ a b ha hb. four_asked f c.args.q row.v a b _ _ _ _ c.index_in-first.ensures
    c.index_in-second.ensures c.index_in-third.ensures c.index_in-fourth.ensures)
