use Rattle.std.proofs.Common.{◌≡◌, ◌+◌}
use Rattle.w4_defs.specs.Framebuffer.{paint}
use Rattle.w4_pixels.specs.Clipping.{clipped}
use Rattle.w4_shapes.specs.OvalCells.{Around, Spans, painter_of}
use Rattle.w4_shapes.proofs.ovals.put_rows.Given as goal

abbrev pub invariant-loop-v : goal.invariant-loop-v
invariant-loop-v l = record {
  painted : l.page ≡ paint l.initial.page
      (clipped (painter_of l.columns.cells) l.columns.left l.columns.right l.fn.rows.first l.v);
  around : Around l.columns l.here;
  above : Spans l.columns l.v l.above;
  here : Spans l.columns (l.v + 1) l.here;
}
