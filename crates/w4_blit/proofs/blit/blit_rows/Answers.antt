use Rattle.std.proofs.Common.{◌≡◌, ◌∙◌, arith, w32, to_z, of_z, pos, ap}
use Rattle.std.specs.Prelude.{◌+ℤ◌, int_le}
use Rattle.std.proofs.lemmas.Int.{to_z-of_z}
use Rattle.w4_defs.specs.Blit.{width_on_screen, height_on_screen}
use Rattle.w4_defs.proofs.PaintLaws.{paint_off, paint_step, paint_ext}
use Rattle.w4_pixels.proofs.ClippingLaws.{boxed_no_row, row_more, boxed_down, boxed_all}
use Rattle.w4_pixels.specs.Clipping.{clipped}
use Rattle.w4_blit.specs.FramebufferCopy.{with_kept}
use Rattle.w4_blit.specs.Unclipped.{cells_painter}
use Rattle.w4_blit.proofs.FramebufferCopyLaws.{with_copied_bytes-paint}
use Rattle.w4_blit.proofs.blit.blit_rows.Goals as goal

pub loop-v-init : goal.loop-v-init
loop-v-init c =
    let f = cells_painter (with_kept c.args.page.now c.args.kept)
    c.args.sprite.now
    (to_z w32 (of_z w32 c.args.x)) (to_z w32 (of_z w32 c.args.y)) in
    let columns = c.screen_part-columns.result in
    let rows = c.screen_part-rows.result in (
      paint_off c.args.page.now _ c.told-page c.fits-page
          (λ a b ha hb. boxed_no_row f columns.first columns.end rows.first rows.first a b (omega arith)),
      omega arith,
    )

pub loop-v-preserved : goal.loop-v-preserved
loop-v-preserved c =
    let page = c.args.page.now in
    let f = cells_painter (with_kept page c.args.kept) c.args.sprite.now (to_z w32 (of_z
    w32 c.args.x))
    (to_z w32 (of_z w32 c.args.y)) in
    let same : with_kept c.loop-v.page c.args.kept ≡ with_kept page c.args.kept =
    rw c.loop-v.invariant.0
    (with_copied_bytes-paint page c.args.kept.first c.args.kept.bytes.now
    (clipped f c.screen_part-columns.result.first c.screen_part-columns.result.end
    c.screen_part-rows.result.first
    c.loop-v.v)) in (
      rw (c.blit_row.ensures, same, c.loop-v.invariant.0)
          (paint_step page _ _ _ c.told-page
          (λ a b ha hb. row_more f c.screen_part-columns.result.first c.screen_part-columns.result.end
          c.screen_part-rows.result.first c.loop-v.v a b c.loop-v.auto.v)),
      omega arith,
    )

pub returns : goal.returns
returns c =
    let x = c.args.x in
    let y = c.args.y in
    let sprite = c.args.sprite.now in
    let left = c.screen_part-columns.result in
    let top = c.screen_part-rows.result in
    let f = cells_painter (with_kept c.args.page.now c.args.kept) sprite x y in
    let same_x : to_z w32 (of_z w32 x) ≡ x = to_z-of_z w32 x c.ranges.x in
    let same_y : to_z w32 (of_z w32 y) ≡ y = to_z-of_z w32 y c.ranges.y in
    let before = simp (same_x, same_y) at c.loop-v.invariant.0 in
    before ∙ paint_ext c.args.page.now _ _ c.told-page (λ a b ha hb.
    boxed_down f left.first left.end top.first top.end c.loop-v.v a b c.loop-v-test.false c.loop-v.invariant.1
    ∙ boxed_all f x (x +ℤ pos (width_on_screen sprite)) y (y +ℤ pos (height_on_screen sprite)) left.first
    left.end top.first top.end a b
    (c.screen_part-columns.ensures.first a ha ∙ ap (λ z. int_le z (pos a)) same_x)
    (c.screen_part-columns.ensures.end a ha ∙ ap (λ z. int_le (z +ℤ pos c.width_on_screen.result) (pos a))
    same_x ∙ ap (λ n. int_le (x +ℤ pos n) (pos a)) c.width_on_screen.ensures)
    (c.screen_part-rows.ensures.first b hb ∙ ap (λ z. int_le z (pos b)) same_y)
    (c.screen_part-rows.ensures.end b hb ∙ ap (λ z. int_le (z +ℤ pos c.height_on_screen.result) (pos b))
    same_y ∙ ap (λ n. int_le (y +ℤ pos n) (pos b)) c.height_on_screen.ensures))
