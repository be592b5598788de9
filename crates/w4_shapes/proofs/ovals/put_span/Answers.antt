use Rattle.std.proofs.Common.{◌≡◌, Some, arith, w64, to_z, of_z, pos}
use Rattle.std.specs.Prelude.{◌-ℤ◌}
use Rattle.std.proofs.lemmas.Bool.Decides.{nat_tests}
use Rattle.std.proofs.lemmas.Int.{ints}
use Rattle.w4_defs.proofs.PaintLaws.{paint_off, paint_ext}
use Rattle.w4_shapes.proofs.OvalRows.{span_extent}
use Rattle.w4_shapes.proofs.ovals.put_span.Goals as goal

pub returns-in-Some : goal.returns-in-Some
returns-in-Some c =
    let a = c.args in
    let first : to_z w64 (of_z w64 (to_z w64 a.extent.first -ℤ pos 1))
    ≡ pos a.extent.first -ℤ pos 1 = omega (arith, ints) in
    let end : to_z w64 (of_z w64 (to_z w64 a.extent.end -ℤ pos 1)) ≡ pos a.extent.end -ℤ pos 1 = omega
    (arith, ints) in
    let row : to_z w64 a.v ≡ pos a.v = omega (arith, ints) in
    rw (c.span.ensures, first, end, row, c.in-Some.is) (paint_ext a.page.now _ _ c.told-page (λ u v hu hv.
    span_extent a.extent.first a.extent.end a.v u v (Some c.in-Some.index)))

pub returns-in_default : goal.returns-in_default
returns-in_default c =
    paint_off c.args.page.now _ c.told-page c.fits-page (λ u v hu hv. grind (arith, nat_tests))
