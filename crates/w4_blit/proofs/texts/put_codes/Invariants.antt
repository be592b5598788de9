use Rattle.std.proofs.Common.{◌≡◌, ◌+◌, ◌*◌, pos, ◌≤ℤ◌, drop}
use Rattle.w4_defs.specs.Framebuffer.{Painter, paint}
use Rattle.w4_defs.specs.Text.{codes_painter, text_codes}
use Rattle.w4_blit.specs.FramebufferCopy.{with_kept}
use Rattle.w4_blit.proofs.texts.put_codes.Given as goal

-- the codes that are left, painted from the pen, give the whole text
abbrev pub invariant-loop-k : goal.invariant-loop-k
invariant-loop-k l = record {
  rest : paint l.page
      (codes_painter l.font l.placed.colors l.placed.x
      (drop l.k (text_codes (with_kept l.initial.page l.kept) l.placed.source)) l.pen.x
      l.pen.y)
      ≡ paint l.initial.page
      (codes_painter l.font l.placed.colors l.placed.x
      (text_codes (with_kept l.initial.page l.kept) l.placed.source) l.placed.x
      l.placed.y);
  painted : (f : Painter) × (l.page ≡ paint l.initial.page f);
  column : l.pen.x ≤ℤ pos (2147483648 + 8 * l.k);
  row : l.pen.y ≤ℤ pos (2147483648 + 8 * l.k);
}
