use Rattle.std.proofs.Common.{◌≡◌, ℕ, ◌+◌, ◌-◌, ◌*◌, get_or, ap, refl, ◌∙◌, rules, w64, to_z, of_z}
use Rattle.std.specs.Prelude.{pos, ◌-ℤ◌}
use Rattle.w4_defs.specs.Shapes.{natural}
use Rattle.w4_defs.specs.Colours.{palette_index}
use Rattle.w4_defs.proofs.PaintLaws.{paint_ext}
use Rattle.w4_blit.proofs.TextLaws.{row_of_glyph}
use Rattle.w4_blit.proofs.glyphs.glyph_row.Goals as goal

pub returns : goal.returns
returns c =
    let g = c.args.part.glyph in
    let colors = c.args.inks.now.colors in
    let font = c.args.font.now in
    let y : to_z w64 (of_z w64 g.y) ≡ g.y = search rules in
    let x : to_z w64 (of_z w64 g.x) ≡ g.x = search rules in
    let put = simp (x) at c.put_row.ensures in
    let first : 8 * c.from-first.result ≡ 8 * (g.code - 32) =
    ap (λ (n : ℕ). 8 * n) (c.from-first.ensures ∙ c.saturating_sub.ensures) in
    let below : c.offset.result ≡ natural (pos c.args.v -ℤ g.y) =
    c.offset.ensures.value ∙ ap (λ z. natural (pos c.args.v -ℤ z)) y in
    let bits : c.byte.result ≡ get_or font (8 * (g.code - 32) + natural (pos c.args.v -ℤ g.y)) 0 =
    c.byte.ensures ∙ ap (λ (n : ℕ). get_or font (n + c.offset.result) 0) first
    ∙ ap (λ (n : ℕ). get_or font (8 * (g.code - 32) + n) 0) below in
    put ∙ paint_ext c.args.page.now _ _ c.told-page
    (λ a b ha hb. row_of_glyph font colors g.code c.byte.result (palette_index colors 1)
    (palette_index colors 2) g.x g.y c.args.part.columns.first c.args.part.columns.end c.args.v a b bits refl
    refl)
