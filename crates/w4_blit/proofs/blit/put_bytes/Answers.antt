use Rattle.std.proofs.Common.{◌≡◌, ◌+◌, ◌*◌, ◌/◌, ◌∙◌, min, arith}
use Rattle.w4_defs.proofs.PaintLaws.{paint_off, paint_step, paint_ext}
use Rattle.w4_pixels.specs.Clipping.{clipped}
use Rattle.w4_pixels.proofs.ClippingLaws.{boxed_none, byte_more, bytes_done}
use Rattle.w4_blit.specs.FramebufferCopy.{with_kept}
use Rattle.w4_blit.specs.Walks.{walk_painter}
use Rattle.w4_blit.proofs.FramebufferCopyLaws.{with_copied_bytes-paint}
use Rattle.w4_blit.proofs.blit.put_bytes.Goals as goal

pub loop-q-init : goal.loop-q-init
loop-q-init c =
    let row = c.args.row in
    let f = walk_painter (with_kept c.args.page.now c.args.drawn.now.kept)
    c.args.drawn.now.sprite.now row.walk
    row.x in
    paint_off c.args.page.now _ c.told-page c.fits-page
    (λ a b ha hb. boxed_none f row.columns.first (min row.columns.end (4 * (row.columns.first / 4))) row.v
    (row.v + 1) a b
    (omega arith))

pub loop-q-preserved : goal.loop-q-preserved
loop-q-preserved c =
    let page = c.args.page.now in
    let row = c.args.row in
    let f = walk_painter (with_kept page c.args.drawn.now.kept) c.args.drawn.now.sprite.now row.walk row.x in
    let same : with_kept c.loop-q.page c.args.drawn.now.kept ≡ with_kept page c.args.drawn.now.kept =
    rw c.loop-q.invariant
    (with_copied_bytes-paint page c.args.drawn.now.kept.first c.args.drawn.now.kept.bytes.now
    (clipped f row.columns.first (min row.columns.end (4 * c.loop-q.q)) row.v (row.v + 1))) in
    rw (c.put_byte.ensures, same, c.loop-q.invariant)
    (paint_step page _ _ _ c.told-page
    (λ a b ha hb. byte_more f row.columns.first row.columns.end row.v c.loop-q.q a b))

pub returns-after-loop-q : goal.returns-after-loop-q
returns-after-loop-q c =
    let row = c.args.row in
    let f = walk_painter (with_kept c.args.page.now c.args.drawn.now.kept)
    c.args.drawn.now.sprite.now row.walk
    row.x in
    c.loop-q.invariant ∙ paint_ext c.args.page.now _ _ c.told-page
    (λ a b ha hb. bytes_done f row.columns.first row.columns.end c.loop-q.q a b row.v (omega arith))

pub returns-else-left-right : goal.returns-else-left-right
returns-else-left-right c =
    let row = c.args.row in
    let f = walk_painter (with_kept c.args.page.now c.args.drawn.now.kept)
    c.args.drawn.now.sprite.now row.walk
    row.x in
    paint_off c.args.page.now _ c.told-page c.fits-page
    (λ a b ha hb. boxed_none f row.columns.first row.columns.end row.v (row.v + 1) a b c.if-left-right.false)
