use Rattle.std.proofs.Common.{◌≡◌, ◌≤◌, max, Some}
use Rattle.w4_defs.specs.Framebuffer.{paint}
use Rattle.w4_pixels.specs.Clipping.{clipped}
use Rattle.w4_pixels.proofs.runs.fill_wide.Given as goal

abbrev pub invariant-loop-row : goal.invariant-loop-row
invariant-loop-row l = record {
  painted : l.page ≡ paint l.initial.page
      (clipped (λ a b. Some l.index) l.columns.first l.columns.end l.fn.rows.first l.row);
  within : l.row ≤ max l.fn.rows.first l.fn.rows.end;
}
