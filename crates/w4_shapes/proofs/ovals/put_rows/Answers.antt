use Rattle.std.proofs.Common.{◌∙◌, ◌+◌, arith, ap, ◌≡◌}
use Rattle.w4_defs.specs.Framebuffer.{paint}
use Rattle.w4_defs.proofs.PaintLaws.{paint_off, paint_step}
use Rattle.w4_pixels.specs.Clipping.{clipped}
use Rattle.w4_pixels.proofs.ClippingLaws.{boxed_no_row, row_more}
use Rattle.w4_shapes.specs.OvalCells.{painter_of, within_at}
use Rattle.w4_shapes.proofs.ovals.put_rows.Goals as goal

pub loop-v-init : goal.loop-v-init
loop-v-init c =
    let a = c.args in
    record {
      painted = paint_off a.page.now _ c.told-page c.fits-page (λ u v hu hv.
          boxed_no_row (painter_of a.columns.cells) a.columns.left a.columns.right a.rows.first a.rows.first
          u v (omega arith));
      around = c.row_extent-here.ensures.around;
      above = c.row_extent-above.ensures.spans;
      here = c.row_extent-here.ensures.spans;
    }

pub row_extent-below-requires-clause-near : goal.row_extent-below-requires-clause-near
row_extent-below-requires-clause-near c = c.loop-v.invariant.around

pub loop-v-preserved : goal.loop-v-preserved
loop-v-preserved c =
    let a = c.args in
    record {
      painted = rw (c.put_row.ensures, c.loop-v.invariant.painted) (paint_step a.page.now _ _ _ c.told-page
          (λ u v hu hv. row_more (painter_of a.columns.cells) a.columns.left a.columns.right a.rows.first
          c.loop-v.v u v
          c.loop-v.auto.v));
      around = c.row_extent-below.ensures.around;
      above = c.loop-v.invariant.here;
      here = λ s low high.
          (let next : c.loop-v.v + 1 + 1 ≡ c.loop-v.v + 2 = omega arith in
          ap (within_at a.columns.cells s) next ∙ c.row_extent-below.ensures.spans s low high);
    }

pub returns : goal.returns
returns c =
    let a = c.args in
    let last : c.loop-v.v ≡ a.rows.end = omega arith in
    c.loop-v.invariant.painted
    ∙ ap (λ n. paint a.page.now (clipped (painter_of a.columns.cells) a.columns.left a.columns.right
    a.rows.first n)) last
