use Rattle.w4_shapes.proofs.OvalRows.{row_pixel, three_painted}
use Rattle.w4_shapes.proofs.ovals.put_row.Goals as goal

pub returns : goal.returns
returns c =
    let a = c.args in
    rw (c.put_span-3.ensures, c.put_span-2.ensures, c.put_span.ensures)
    (three_painted a.page.now _ _ _ _ c.told-page (λ u b hu hb.
    row_pixel a.rows.columns a.rows.v a.rows.above a.rows.here a.rows.below
    c.on_screen-whole.result c.inner_part-inner.result u b
    a.rows.columns.first_cell a.rows.columns.last_cell a.rows.first_cell a.rows.last_cell
    a.rows.spans_above a.rows.spans_here a.rows.spans_below c.on_screen-whole.ensures.first
    c.on_screen-whole.ensures.end
    c.inner_part-inner.ensures.low c.inner_part-inner.ensures.order c.inner_part-inner.ensures.high
    c.inner_part-inner.ensures.same c.index_of-edge.result c.index_of-inside.result c.index_of-edge.ensures
    c.index_of-inside.ensures))
