use Rattle.std.proofs.Common.{◌≡◌, ◌∙◌, rules, w32, to_z, of_z}
use Rattle.w4_defs.proofs.PaintLaws.{paint_ext}
use Rattle.w4_blit.specs.FramebufferCopy.{with_kept}
use Rattle.w4_blit.proofs.FramebufferCopyLaws.{length-with_copied_bytes}
use Rattle.w4_blit.proofs.WalkLaws.{walked_cells}
use Rattle.w4_blit.proofs.blit.blit_row.Goals as goal

pub returns : goal.returns
returns c =
    let a = c.args in
    let page = with_kept a.page.now c.args.drawn.now.kept in
    let part = a.part in
    let same_x : to_z w32 (of_z w32 part.x) ≡ part.x = search rules in
    let same_y : to_z w32 (of_z w32 part.y) ≡ part.y = search rules in
    let put = simp (same_x) at c.put_row.ensures in
    let below = simp (same_y) at c.distance.ensures in
    put ∙ paint_ext a.page.now _ _ c.told-page
    (λ u w hu hw. walked_cells page a.drawn.now.sprite.now c.of_row.result part.x part.y part.columns.first
    part.columns.end
    part.v c.distance.result u w
    (length-with_copied_bytes a.page.now a.drawn.now.kept.first a.drawn.now.kept.bytes.now ∙ c.told-page)
    below
    c.of_row.ensures)
