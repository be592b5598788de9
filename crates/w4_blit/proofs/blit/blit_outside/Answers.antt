use Rattle.std.proofs.Common.{w32, ◌∙◌}
use Rattle.std.proofs.lemmas.Int.{to_z-of_z}
use Rattle.w4_defs.proofs.PaintLaws.{paint_ext}
use Rattle.w4_blit.proofs.FramebufferCopyLaws.{behind_blit}
use Rattle.w4_blit.proofs.blit.blit_outside.Goals as goal

pub returns : goal.returns
returns c =
    let put = simp (to_z-of_z w32 c.args.x c.ranges.x, to_z-of_z w32 c.args.y c.ranges.y) at
    c.blit_rows.ensures in
    put ∙ paint_ext c.args.page.now _ _ c.told-page
    (λ u v hu hv. behind_blit c.args.page.now _ c.args.sprite.now c.args.x c.args.y u v c.told-page
    c.requires)
