use Rattle.std.proofs.Common.{Some, ap, arith, w64, pos, ◌∙◌}
use Rattle.std.specs.Prelude.{int_le}
use Rattle.std.proofs.lemmas.Bool.Decides.{nat_tests}
use Rattle.std.proofs.lemmas.Int.{to_z-of_z}
use Rattle.w4_defs.specs.Framebuffer.{Painter}
use Rattle.w4_defs.proofs.PaintLaws.{paint_off, paint_ext}
use Rattle.w4_pixels.proofs.ClippingLaws.{boxed_all}
use Rattle.w4_shapes.proofs.boxes.fill.Goals as goal

pub returns-in-Some : goal.returns-in-Some
returns-in-Some c =
    let a = c.args in
    let f : Painter = λ u v. Some c.in-Some.index in
    c.fill.ensures ∙ rw c.in-Some.is (paint_ext a.page.now _ _ c.told-page (λ u v hu hv.
    boxed_all f a.left a.right a.top a.bottom _ _ _ _ u v
    (c.part_between-columns.ensures.first u hu ∙ ap (λ z. int_le z (pos u)) (to_z-of_z w64 a.left
    c.ranges.left))
    (c.part_between-columns.ensures.end u hu ∙ ap (λ z. int_le z (pos u)) (to_z-of_z w64 a.right
    c.ranges.right))
    (c.part_between-rows.ensures.first v hv ∙ ap (λ z. int_le z (pos v)) (to_z-of_z w64 a.top c.ranges.top))
    (c.part_between-rows.ensures.end v hv
    ∙ ap (λ z. int_le z (pos v)) (to_z-of_z w64 a.bottom c.ranges.bottom))))

pub returns-in_default : goal.returns-in_default
returns-in_default c =
    paint_off c.args.page.now _ c.told-page c.fits-page (λ u v hu hv. grind (arith, nat_tests))
