use Rattle.std.proofs.Common.{Some, ap, arith, w64, pos, ◌∙◌}
use Rattle.std.specs.Prelude.{int_le}
use Rattle.std.proofs.lemmas.Bool.Decides.{nat_tests}
use Rattle.std.proofs.lemmas.Int.{ints, to_z-of_z}
use Rattle.w4_defs.proofs.PaintLaws.{paint_off, paint_ext}
use Rattle.w4_pixels.proofs.PackedLaws.{span_row}
use Rattle.w4_pixels.proofs.runs.span.Goals as goal
use Rattle.w4_pixels.proofs.runs.span.Goals.{else-y-ge0-via-then-y-ge0+else-y-lt160}
use Rattle.w4_pixels.proofs.runs.span.Goals.{else-y-ge0-via-else-y-ge0}

pub returns-then-y-lt160 : goal.returns-then-y-lt160
returns-then-y-lt160 c = c.fill.ensures ∙ paint_ext c.args.page.now _ _ c.told-page (λ u v hu hv.
    span_row c.args.x0 c.args.x1 c.args.y c.part_between.result.first c.part_between.result.end _ u v
    (Some c.args.index)
    (c.part_between.ensures.first u hu ∙ ap (λ z. int_le z (pos u)) (to_z-of_z w64 c.args.x0 c.ranges.x0))
    (c.part_between.ensures.end u hu
    ∙ ap (λ z. int_le z (pos u)) (to_z-of_z w64 c.args.x1 c.ranges.x1))
    (omega (arith, ints)))

pub returns-else-y-ge0 : goal.returns-else-y-ge0
returns-else-y-ge0 c =
    paint_off c.args.page.now _ c.told-page c.fits-page (λ u v hu hv. elim c.else-y-ge0.branch [
      | else-y-ge0-via-then-y-ge0+else-y-lt160 w ↦ grind (arith, ints, nat_tests)
      | else-y-ge0-via-else-y-ge0 w ↦ grind (arith, ints, nat_tests)
    ])
