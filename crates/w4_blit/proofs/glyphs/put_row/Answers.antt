use Rattle.std.proofs.Common.{◌≡◌, ℕ, ◌+◌, ◌-◌, ◌*◌, ◌/◌, ◌%◌, ◌^◌, ◌<◌, ◌∙◌, min, sym, ap, inl, inr, rules}
use Rattle.std.proofs.Common.{w64, to_z, of_z, arith}
use Rattle.std.specs.Prelude.{pos, ◌-ℤ◌}
use Rattle.w4_defs.specs.Colours.{palette_index}
use Rattle.w4_defs.specs.Shapes.{natural}
use Rattle.w4_defs.proofs.PaintLaws.{paint_ext}
use Rattle.w4_blit.specs.Unclipped.{eight_painter}
use Rattle.w4_blit.proofs.StripLaws.{strip_clipped}
use Rattle.w4_blit.proofs.TextLaws.{by_bit, from_first}
use Rattle.w4_blit.proofs.WindowLaws.{natural_more}
use Rattle.w4_blit.proofs.glyphs.put_row.Goals as goal

pub overflow_cast-offset : goal.overflow_cast-offset
overflow_cast-offset c =
    let row = c.args.row in
    let x : to_z w64 (of_z w64 row.x) ≡ row.x = search rules in
    let first = c.offset.ensures.value ∙ ap (λ z. natural (pos row.columns.first -ℤ z)) x in
    let few = from_first row.x row.columns.first row.columns.end c.offset.result row.some row.from
    row.to first in
    omega (arith, few)

pub placed-bits-requires-clause-from : goal.placed-bits-requires-clause-from
placed-bits-requires-clause-from c =
    let row = c.args.row in
    let x : to_z w64 (of_z w64 row.x) ≡ row.x = search rules in
    let first = c.offset.ensures.value ∙ ap (λ z. natural (pos row.columns.first -ℤ z)) x in
    let few = from_first row.x row.columns.first row.columns.end c.offset.result row.some row.from
    row.to first in
    omega (arith, few, row.some)

pub returns : goal.returns
returns c =
    let row = c.args.row in
    let q = c.min-q.result in
    let base : q ≡ min (row.columns.first / 4) 36 = c.min-q.ensures in
    let low = row.columns.first - 4 * q in
    let n = c.offset.result in
    let x : to_z w64 (of_z w64 row.x) ≡ row.x = search rules in
    let first : n ≡ natural (pos row.columns.first -ℤ row.x) =
    c.offset.ensures.value ∙ ap (λ z. natural (pos row.columns.first -ℤ z)) x in
    let few = from_first row.x row.columns.first row.columns.end n row.some row.from row.to first in
    let colors = c.args.inks.now.colors in
    let f = eight_painter row.bits (palette_index colors 1) (palette_index colors 2) row.x in
    let strip = c.part_of-strip.result in
    let bits = c.placed-bits.result in
    c.put_strip.ensures ∙ paint_ext c.args.page.now _ _ c.told-page
    (λ a b ha hb. strip_clipped f q row.columns.first row.columns.end row.v strip a b (omega arith)
    (omega (arith, few))
    (λ k hl hr. (
    let d = k - low in
    let there : n + d < 8 = omega (arith, few) in
    let at : low + d ≡ k = omega arith in
    let column : row.columns.first + d ≡ 4 * q + k = omega arith in
    let cell : n + d ≡ natural (pos (4 * q + k) -ℤ row.x) =
    ap (λ (m : ℕ). m + d) first ∙ sym (natural_more row.x row.columns.first d row.from)
    ∙ ap (λ (u : ℕ). natural (pos u -ℤ row.x)) column in
    let digit : bits / 4 ^ k % 4 ≡ 3 * (row.bits / 2 ^ (7 - natural (pos (4 * q + k) -ℤ row.x)) % 2) =
    ap (λ (j : ℕ). bits / 4 ^ j % 4) (sym at) ∙ c.placed-bits.ensures.bits d (omega (arith, few)) there
    ∙ ap (λ (m : ℕ). 3 * (row.bits / 2 ^ (7 - m) % 2)) cell in
    c.part_of-strip.ensures.inside k (omega arith) (omega arith)
    ∙ by_bit colors row.bits (natural (pos (4 * q + k) -ℤ row.x)) (bits / 4 ^ k % 4) _ digit
    (λ none. c.either.ensures.strip k (omega (arith, few)) none ∙ c.args.inks.now.first_plain k (omega
    (arith, few)))
    (λ one. c.either.ensures.other k (omega (arith, few)) one ∙ c.args.inks.now.second_plain k (omega (
      arith,
      few,
    )))))
    (λ k hk out. elim out [
      | inl before ↦ c.part_of-strip.ensures.outside k hk (inl (omega arith))
      | inr past ↦ c.part_of-strip.ensures.outside k hk (inr (omega arith))
    ]))
