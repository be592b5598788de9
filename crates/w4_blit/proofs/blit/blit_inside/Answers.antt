use Rattle.std.proofs.Common.{◌≡◌, ℕ, ◌+◌, List, take, sym, ap, w32, ◌∙◌}
use Rattle.std.specs.Prelude.{slice_range}
use Rattle.std.proofs.lemmas.Int.{to_z-of_z}
use Rattle.w4_defs.specs.Blit.{blit_painter}
use Rattle.w4_defs.specs.Framebuffer.{paint}
use Rattle.w4_defs.proofs.PaintLaws.{paint_ext}
use Rattle.w4_blit.specs.FramebufferCopy.{with_copied_bytes}
use Rattle.w4_blit.proofs.ReachLaws.{kept_blit}
use Rattle.w4_blit.proofs.FramebufferCopyLaws.{from_the_first}
use Rattle.w4_blit.proofs.blit.blit_inside.Goals as goal

pub returns-then-len-le256 : goal.returns-then-len-le256
returns-then-len-le256 c =
    let page = c.args.page.now in
    let sprite = c.args.sprite.now in
    let first = c.framebuffer_read-first.result.0 in
    let len = c.framebuffer_read-first.result.1 in
    let same : take len c.few_bytes-copy.result ≡ slice_range page first (first + len) =
    sym (from_the_first c.few_bytes-copy.result len) ∙ c.few_bytes-copy.ensures in
    let put : c.blit_rows.new.page
    ≡ paint page (blit_painter (with_copied_bytes page first (take len c.few_bytes-copy.result)) sprite
    c.args.x
    c.args.y) =
    simp (to_z-of_z w32 c.args.x c.ranges.x, to_z-of_z w32 c.args.y c.ranges.y) at c.blit_rows.ensures in
    put
    ∙ ap (λ (s : List ℕ). paint page (blit_painter (with_copied_bytes page first s) sprite c.args.x
    c.args.y)) same
    ∙ paint_ext page _ _ c.told-page (λ u v hu hv.
    kept_blit page sprite first len c.args.x c.args.y u v c.told-page
    c.framebuffer_read-first.ensures.reach)

pub returns-else-len-le256 : goal.returns-else-len-le256
returns-else-len-le256 c =
    let page = c.args.page.now in
    let sprite = c.args.sprite.now in
    let first = c.framebuffer_read-first.result.0 in
    let len = c.framebuffer_read-first.result.1 in
    let same : take len c.many_bytes-copy.result ≡ slice_range page first (first + len) =
    sym (from_the_first c.many_bytes-copy.result len) ∙ c.many_bytes-copy.ensures in
    let put : c.blit_rows-else-len-le256.new.page
    ≡ paint page (blit_painter (with_copied_bytes page first (take len c.many_bytes-copy.result)) sprite
    c.args.x c.args.y) =
    simp (to_z-of_z w32 c.args.x c.ranges.x, to_z-of_z w32 c.args.y c.ranges.y) at
    c.blit_rows-else-len-le256.ensures in
    put
    ∙ ap (λ (s : List ℕ). paint page (blit_painter (with_copied_bytes page first s) sprite c.args.x
    c.args.y)) same
    ∙ paint_ext page _ _ c.told-page (λ u v hu hv.
    kept_blit page sprite first len c.args.x c.args.y u v c.told-page
    c.framebuffer_read-first.ensures.reach)
