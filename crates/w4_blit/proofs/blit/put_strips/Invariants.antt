use Rattle.std.proofs.Common.{◌≡◌, ◌+◌, ◌*◌, ◌/◌, min}
use Rattle.w4_defs.specs.Framebuffer.{paint}
use Rattle.w4_pixels.specs.Clipping.{clipped}
use Rattle.w4_blit.specs.FramebufferCopy.{with_kept}
use Rattle.w4_blit.specs.Walks.{walk_painter}
use Rattle.w4_blit.proofs.blit.put_strips.Given as goal

abbrev pub invariant-loop-i : goal.invariant-loop-i
invariant-loop-i l =
    l.page ≡ paint l.initial.page
    (clipped (walk_painter (with_kept l.initial.page l.drawn.kept) l.drawn.sprite.now l.run.row.walk
    l.run.row.x) l.run.row.columns.first
    (min l.run.row.columns.end (4 * (l.run.row.columns.first / 4 + 4 * l.i))) l.run.row.v (l.run.row.v + 1))
