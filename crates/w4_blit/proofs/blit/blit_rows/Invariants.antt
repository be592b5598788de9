use Rattle.std.proofs.Common.{◌≡◌, ◌≤◌, max}
use Rattle.w4_defs.specs.Framebuffer.{paint}
use Rattle.w4_pixels.specs.Clipping.{clipped}
use Rattle.w4_blit.specs.FramebufferCopy.{with_kept}
use Rattle.w4_blit.specs.Unclipped.{cells_painter}
use Rattle.w4_blit.proofs.blit.blit_rows.Given as goal

abbrev pub invariant-loop-v : goal.invariant-loop-v
invariant-loop-v l =
    (l.page ≡ paint l.initial.page
    (clipped (cells_painter (with_kept l.initial.page l.kept) l.sprite l.x l.y) l.columns.first
    l.columns.end l.initial.v l.v))
    × (l.v ≤ max l.initial.v l.v-end)
