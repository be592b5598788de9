use Rattle.std.proofs.Common.{arith}
use Rattle.std.proofs.lemmas.Bool.Decides.{nat_tests}
use Rattle.std.proofs.lemmas.Int.{ints}
use Rattle.w4_defs.proofs.PaintLaws.{paint_off}
use Rattle.w4_pixels.proofs.dots.point.Goals as goal
use Rattle.w4_pixels.proofs.dots.point.Goals.{else-x-ge0-via-then-x-ge0+then-x-lt160+then-y-ge0+else-y-lt160}
use Rattle.w4_pixels.proofs.dots.point.Goals.{else-x-ge0-via-then-x-ge0+then-x-lt160+else-y-ge0}
use Rattle.w4_pixels.proofs.dots.point.Goals.{else-x-ge0-via-then-x-ge0+else-x-lt160}
use Rattle.w4_pixels.proofs.dots.point.Goals.{else-x-ge0-via-else-x-ge0}

pub returns-else-x-ge0 : goal.returns-else-x-ge0
returns-else-x-ge0 c =
    paint_off c.args.page.now _ c.told-page c.fits-page (λ u v hu hv. elim c.else-x-ge0.branch [
      | else-x-ge0-via-then-x-ge0+then-x-lt160+then-y-ge0+else-y-lt160 w ↦ grind (arith, ints, nat_tests)
      | else-x-ge0-via-then-x-ge0+then-x-lt160+else-y-ge0 w ↦ grind (arith, ints, nat_tests)
      | else-x-ge0-via-then-x-ge0+else-x-lt160 w ↦ grind (arith, ints, nat_tests)
      | else-x-ge0-via-else-x-ge0 w ↦ grind (arith, ints, nat_tests)
    ])
