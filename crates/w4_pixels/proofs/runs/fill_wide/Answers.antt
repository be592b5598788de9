use Rattle.std.proofs.Common.{Some, ◌∙◌, arith}
use Rattle.w4_defs.specs.Framebuffer.{Painter}
use Rattle.w4_defs.proofs.PaintLaws.{paint_off, paint_step, paint_ext}
use Rattle.w4_pixels.proofs.ClippingLaws.{boxed_no_row, boxed_down, row_more}
use Rattle.w4_pixels.proofs.runs.fill_wide.Goals as goal

pub loop-row-init : goal.loop-row-init
loop-row-init c =
    let f : Painter = λ a b. Some c.args.index in
    let columns = c.args.columns in
    let rows = c.args.rows in
    record {
      painted = paint_off c.args.page.now _ c.told-page c.fits-page
          (λ a b ha hb. boxed_no_row f columns.first columns.end rows.first rows.first a b (omega arith));
      within = omega arith;
    }

pub loop-row-preserved : goal.loop-row-preserved
loop-row-preserved c =
    let f : Painter = λ a b. Some c.args.index in
    let columns = c.args.columns in
    let rows = c.args.rows in
    record {
      painted = rw (c.put_row.ensures, c.loop-row.invariant.painted)
          (paint_step c.args.page.now _ _ _ c.told-page
          (λ a b ha hb.
          row_more f columns.first columns.end rows.first c.loop-row.row a b c.loop-row.auto.row));
      within = omega arith;
    }

pub returns : goal.returns
returns c =
    let f : Painter = λ a b. Some c.args.index in
    let columns = c.args.columns in
    let rows = c.args.rows in
    c.loop-row.invariant.painted ∙ paint_ext c.args.page.now _ _ c.told-page
    (λ a b ha hb. boxed_down f columns.first columns.end rows.first rows.end c.loop-row.row a b
    c.loop-row-test.false c.loop-row.invariant.within)
