use Rattle.std.proofs.Common.{◌∙◌, ◌≡◌, ap, sym, w64, to_z, of_z, pos, arith}
use Rattle.std.proofs.lemmas.Int.{ints}
use Rattle.std.specs.Prelude.{◌+ℤ◌, int_le}
use Rattle.w4_defs.proofs.PaintLaws.{paint_off, paint_ext}
use Rattle.w4_pixels.proofs.ClippingLaws.{boxed_all, boxed_none}
use Rattle.w4_blit.proofs.TextLaws.{first_column, last_column}
use Rattle.w4_blit.specs.Unclipped.{bits_painter}
use Rattle.w4_blit.proofs.glyphs.glyph_rows.Goals as goal

pub invariant_of-part : goal.invariant_of-part
invariant_of-part c =
    let g = c.args.glyph in
    let columns = c.part_between-columns.result in
    let x : to_z w64 (of_z w64 g.x) ≡ g.x = omega (arith, ints) in
    let x8 : to_z w64 (of_z w64 (to_z w64 (of_z w64 g.x) +ℤ pos 8)) ≡ g.x +ℤ pos 8 = omega (arith, ints) in
    record {
      some = c.if-columns.true;
      from = first_column g.x columns.first (omega arith)
          (λ u hu. c.part_between-columns.ensures.first u hu ∙ ap (λ z. int_le z (pos u)) x);
      to = last_column (g.x +ℤ pos 8) columns.end (omega arith) columns.end_within
          (λ u hu. c.part_between-columns.ensures.end u hu ∙ ap (λ z. int_le z (pos u)) x8);
    }

pub returns-then-columns : goal.returns-then-columns
returns-then-columns c =
    let g = c.args.glyph in
    let x : to_z w64 (of_z w64 g.x) ≡ g.x = omega (arith, ints) in
    let y : to_z w64 (of_z w64 g.y) ≡ g.y = omega (arith, ints) in
    let x8 : to_z w64 (of_z w64 (to_z w64 (of_z w64 g.x) +ℤ pos 8)) ≡ g.x +ℤ pos 8 = omega (arith, ints) in
    let y8 : to_z w64 (of_z w64 (to_z w64 (of_z w64 g.y) +ℤ pos 8)) ≡ g.y +ℤ pos 8 = omega (arith, ints) in
    let columns = c.part_between-columns.result in
    let rows = c.part_between-rows.result in
    let f = bits_painter c.args.font.now c.args.inks.now.colors g.code g.x g.y in
    c.rows_on_screen.ensures ∙ paint_ext c.args.page.now _ _ c.told-page (λ a b ha hb.
    boxed_all f g.x (g.x +ℤ pos 8) g.y (g.y +ℤ pos 8) columns.first columns.end rows.first rows.end a b
    (c.part_between-columns.ensures.first a ha ∙ ap (λ z. int_le z (pos a)) x)
    (c.part_between-columns.ensures.end a ha ∙ ap (λ z. int_le z (pos a)) x8)
    (c.part_between-rows.ensures.first b hb ∙ ap (λ z. int_le z (pos b)) y)
    (c.part_between-rows.ensures.end b hb ∙ ap (λ z. int_le z (pos b)) y8))

pub returns-else-columns : goal.returns-else-columns
returns-else-columns c =
    let g = c.args.glyph in
    let x : to_z w64 (of_z w64 g.x) ≡ g.x = omega (arith, ints) in
    let y : to_z w64 (of_z w64 g.y) ≡ g.y = omega (arith, ints) in
    let x8 : to_z w64 (of_z w64 (to_z w64 (of_z w64 g.x) +ℤ pos 8)) ≡ g.x +ℤ pos 8 = omega (arith, ints) in
    let y8 : to_z w64 (of_z w64 (to_z w64 (of_z w64 g.y) +ℤ pos 8)) ≡ g.y +ℤ pos 8 = omega (arith, ints) in
    let columns = c.part_between-columns.result in
    let rows = c.part_between-rows.result in
    let f = bits_painter c.args.font.now c.args.inks.now.colors g.code g.x g.y in
    paint_off c.args.page.now _ c.told-page c.fits-page (λ a b ha hb.
    sym (boxed_all f g.x (g.x +ℤ pos 8) g.y (g.y +ℤ pos 8) columns.first columns.end rows.first rows.end a b
    (c.part_between-columns.ensures.first a ha ∙ ap (λ z. int_le z (pos a)) x)
    (c.part_between-columns.ensures.end a ha ∙ ap (λ z. int_le z (pos a)) x8)
    (c.part_between-rows.ensures.first b hb ∙ ap (λ z. int_le z (pos b)) y)
    (c.part_between-rows.ensures.end b hb ∙ ap (λ z. int_le z (pos b)) y8))
    ∙ boxed_none f columns.first columns.end rows.first rows.end a b (omega arith))
