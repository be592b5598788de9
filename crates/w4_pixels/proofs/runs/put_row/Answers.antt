use Rattle.w4_defs.proofs.PaintLaws.{paint-paint, paint_step}
use Rattle.w4_pixels.proofs.PackedLaws.{wide_row}
use Rattle.w4_pixels.proofs.runs.put_row.Goals as goal

pub returns : goal.returns
returns c =
    let a = c.args in
    rw (
      c.put_masked-2.ensures,
      c.put_whole.ensures,
      c.put_masked.ensures,
      paint-paint a.page.now _ _ c.told-page,
    )
    (paint_step a.page.now _ _ _ c.told-page (λ u v hu hv.
    wide_row a.columns.first a.columns.end a.row a.columns.left a.columns.right a.index u v
    a.columns.wide a.columns.left_chosen a.columns.right_chosen))
