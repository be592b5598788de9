use Rattle.std.proofs.Common.{Some, ap, arith, w64, pos, ◌∙◌}
use Rattle.std.specs.Prelude.{int_le}
use Rattle.std.proofs.lemmas.Bool.Decides.{nat_tests}
use Rattle.std.proofs.lemmas.Int.{ints, to_z-of_z}
use Rattle.w4_defs.proofs.PaintLaws.{paint_off, paint_ext}
use Rattle.w4_shapes.proofs.BoxTests.{column_all}
use Rattle.w4_shapes.proofs.boxes.put_column.Goals as goal
use Rattle.w4_shapes.proofs.boxes.put_column.Goals.{else-x-ge0-via-then-x-ge0+else-x-lt160}
use Rattle.w4_shapes.proofs.boxes.put_column.Goals.{else-x-ge0-via-else-x-ge0}

pub returns-then-x-lt160 : goal.returns-then-x-lt160
returns-then-x-lt160 c =
    let a = c.args in
    c.column.ensures ∙ paint_ext a.page.now _ _ c.told-page (λ u v hu hv.
    column_all a.x a.top a.bottom _ c.part_between.result.first c.part_between.result.end u v (Some a.index)
    (omega (arith, ints))
    (c.part_between.ensures.first v hv ∙ ap (λ z. int_le z (pos v)) (to_z-of_z w64 a.top c.ranges.top))
    (c.part_between.ensures.end v hv
    ∙ ap (λ z. int_le z (pos v)) (to_z-of_z w64 a.bottom c.ranges.bottom)))

pub returns-else-x-ge0 : goal.returns-else-x-ge0
returns-else-x-ge0 c =
    paint_off c.args.page.now _ c.told-page c.fits-page (λ u v hu hv. elim c.else-x-ge0.branch [
      | else-x-ge0-via-then-x-ge0+else-x-lt160 w ↦ grind (arith, ints, nat_tests)
      | else-x-ge0-via-else-x-ge0 w ↦ grind (arith, ints, nat_tests)
    ])
