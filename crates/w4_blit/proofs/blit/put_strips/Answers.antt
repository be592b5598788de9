use Rattle.std.proofs.Common.{◌≡◌, ℕ, ◌+◌, ◌*◌, ◌/◌, ◌∙◌, min, ap, arith}
use Rattle.w4_defs.proofs.PaintLaws.{paint_off, paint_step, paint_ext}
use Rattle.w4_pixels.specs.Clipping.{clipped}
use Rattle.w4_pixels.proofs.ClippingLaws.{boxed_none, bytes_done}
use Rattle.w4_blit.specs.FramebufferCopy.{with_kept}
use Rattle.w4_blit.specs.Walks.{walk_painter}
use Rattle.w4_blit.proofs.FramebufferCopyLaws.{with_copied_bytes-paint}
use Rattle.w4_blit.proofs.WindowLaws.{strips_more}
use Rattle.w4_blit.proofs.blit.put_strips.Goals as goal

pub loop-i-init : goal.loop-i-init
loop-i-init c =
    let row = c.args.run.row in
    let f = walk_painter (with_kept c.args.page.now c.args.drawn.now.kept)
    c.args.drawn.now.sprite.now row.walk row.x in
    paint_off c.args.page.now _ c.told-page c.fits-page
    (λ a b ha hb. boxed_none f row.columns.first (min row.columns.end (4 * (row.columns.first / 4 + 4 * 0)))
    row.v (row.v + 1) a b
    (omega arith))

pub loop-i-preserved : goal.loop-i-preserved
loop-i-preserved c =
    let page = c.args.page.now in
    let row = c.args.run.row in
    let q = row.columns.first / 4 + 4 * c.loop-i.i in
    let next : q + 4 ≡ row.columns.first / 4 + 4 * (c.loop-i.i + 1) = omega arith in
    let f = walk_painter (with_kept page c.args.drawn.now.kept) c.args.drawn.now.sprite.now row.walk row.x in
    let same : with_kept c.loop-i.page c.args.drawn.now.kept ≡ with_kept page c.args.drawn.now.kept =
    rw c.loop-i.invariant
    (with_copied_bytes-paint page c.args.drawn.now.kept.first c.args.drawn.now.kept.bytes.now (clipped f
    row.columns.first (min row.columns.end (4 * q)) row.v
    (row.v + 1))) in
    rw (c.put_sixteen.ensures, same, c.loop-i.invariant)
    (paint_step page _ _ _ c.told-page
    (λ a b ha hb. strips_more f row.columns.first row.columns.end row.v q a b
    ∙ ap (λ (n : ℕ). clipped f row.columns.first (min row.columns.end (4 * n)) row.v (row.v + 1) a b) next))

pub returns : goal.returns
returns c =
    let row = c.args.run.row in
    let f = walk_painter (with_kept c.args.page.now c.args.drawn.now.kept)
    c.args.drawn.now.sprite.now row.walk row.x in
    c.loop-i.invariant ∙ paint_ext c.args.page.now _ _ c.told-page
    (λ a b ha hb. bytes_done f row.columns.first row.columns.end (row.columns.first / 4 + 4 * c.loop-i.i) a b
    row.v
    (omega (arith, c.loop-i-test.false, c.args.run.some)))
