use Rattle.std.proofs.Common.{◌≡◌, ◌≤◌, max}
use Rattle.w4_defs.specs.Framebuffer.{paint}
use Rattle.w4_pixels.specs.Clipping.{clipped}
use Rattle.w4_blit.specs.Unclipped.{bits_painter}
use Rattle.w4_blit.proofs.glyphs.rows_on_screen.Given as goal

abbrev pub invariant-loop-v : goal.invariant-loop-v
invariant-loop-v l =
    (l.page ≡ paint l.initial.page
    (clipped (bits_painter l.font l.inks.colors l.part.glyph.code l.part.glyph.x l.part.glyph.y)
    l.part.columns.first l.part.columns.end
    l.part.rows.first l.v))
    × (l.v ≤ max l.part.rows.first l.part.rows.end)
