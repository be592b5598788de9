use Rattle.std.proofs.Common.{◌≡◌, ◌+◌, ◌*◌, min}
use Rattle.w4_defs.specs.Framebuffer.{paint}
use Rattle.w4_pixels.specs.Clipping.{clipped}
use Rattle.w4_blit.specs.FramebufferCopy.{with_kept}
use Rattle.w4_blit.specs.Walks.{walk_painter}
use Rattle.w4_blit.proofs.blit.put_bytes.Given as goal

abbrev pub invariant-loop-q : goal.invariant-loop-q
invariant-loop-q l =
    l.page ≡ paint l.initial.page
    (clipped (walk_painter (with_kept l.initial.page l.drawn.kept) l.drawn.sprite.now l.row.walk
    l.row.x) l.row.columns.first
    (min l.row.columns.end (4 * l.q)) l.row.v (l.row.v + 1))
