use Rattle.std.proofs.Common.{arith}
use Rattle.std.proofs.lemmas.Bool.Decides.{nat_tests}
use Rattle.w4_defs.proofs.PaintLaws.{paint_off}
use Rattle.w4_shapes.proofs.boxes.fill_column.Goals as goal

pub returns-in_default : goal.returns-in_default
returns-in_default c =
    paint_off c.args.page.now _ c.told-page c.fits-page (λ u v hu hv. grind (arith, nat_tests))
