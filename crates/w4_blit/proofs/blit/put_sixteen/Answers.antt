use Rattle.std.proofs.Common.{◌≡◌, ℕ, ◌+◌, ◌-◌, ◌*◌, ◌<◌, ◌∙◌, max, min, sym, ap, subst, inl, inr, rules, w32}
use Rattle.std.proofs.Common.{to_z, of_z, arith}
use Rattle.std.specs.Prelude.{pos, ◌-ℤ◌, ◌≤ℤ◌}
use Rattle.std.proofs.lemmas.Int.{ints}
use Rattle.w4_defs.specs.Blit.{source_value}
use Rattle.w4_defs.specs.Colours.{palette_index}
use Rattle.w4_defs.specs.Shapes.{natural}
use Rattle.w4_defs.proofs.PaintLaws.{paint_ext}
use Rattle.w4_pixels.specs.Clipping.{clipped}
use Rattle.w4_blit.specs.FramebufferCopy.{with_kept}
use Rattle.w4_blit.specs.Strips.{HasValue}
use Rattle.w4_blit.specs.Walks.{walk_painter, walked}
use Rattle.w4_blit.proofs.StripLaws.{strip_clipped}
use Rattle.w4_blit.proofs.WindowLaws.{cells_left, few_values, ink_index, natural_more, small_value}
use Rattle.w4_blit.proofs.blit.put_sixteen.Goals as goal

pub returns : goal.returns
returns c =
    let row = c.args.here.run.row in
    let q = c.args.here.q in
    let left = c.max-left.result in
    let right = c.min-right.result in
    let from_left : left ≡ max row.columns.first (4 * q) = c.max-left.ensures in
    let to_right : right ≡ min row.columns.end (4 * q + 16) = c.min-right.ensures in
    let page = with_kept c.args.page.now c.args.drawn.now.kept in
    let sprite = c.args.drawn.now.sprite.now in
    let x : to_z w32 (of_z w32 row.x) ≡ row.x = search rules in
    let n = c.distance.result in
    let first : n ≡ natural (pos left -ℤ row.x) =
    c.distance.ensures ∙ ap (λ z. natural (pos left -ℤ z)) x in
    let behind : row.x ≤ℤ pos left = omega (arith, ints, c.args.here.run.from) in
    let to : (pos right -ℤ row.x) ≤ℤ pos row.walk.count = omega (arith, ints, c.args.here.run.to) in
    let some : left < right = omega arith in
    let cells = cells_left row.x left right n row.walk.count some behind to first in
    let f = walk_painter page sprite row.walk row.x in
    let strip = c.part_of-strip.result in
    let bits = c.cell_bits-bits.result in
    let base = c.min-base.result in
    let is_base : base ≡ min q 36 = c.min-base.ensures in
    let low = left - 4 * base in
    c.put_strip.ensures ∙ paint_ext c.args.page.now _ _ c.told-page
    (λ a b ha hb. strip_clipped f base left right row.v strip a b (omega arith) (omega arith)
    (λ k hl hr. (
    let d = k - low in
    let at : low + d ≡ k = omega arith in
    let column : left + d ≡ 4 * base + k = omega arith in
    let cell : natural (pos (4 * base + k) -ℤ row.x) ≡ n + d =
    sym (ap (λ (u : ℕ). natural (pos u -ℤ row.x)) column) ∙ natural_more row.x left d behind
    ∙ ap (λ (m : ℕ). m + d) (sym first) in
    let value = source_value page sprite (walked row.walk (n + d)) in
    let small : value < 4 = small_value page sprite (walked row.walk (n + d)) in
    let hk : k < 16 = omega arith in
    let has : HasValue bits k value =
    subst (λ (j : ℕ). HasValue bits j value) at
    (c.cell_bits-bits.ensures d (omega arith) (omega (arith, cells))) in
    c.part_of-strip.ensures.inside k (omega arith) (omega arith)
    ∙ c.painted_by.ensures k value hk (few_values page sprite (walked row.walk (n + d))) has
    ∙ ink_index c.args.drawn.now.inks k value hk small
    ∙ ap (λ (n : ℕ). palette_index n (value + 1)) c.args.drawn.now.colors
    ∙ ap (λ (m : ℕ). palette_index sprite.colors (source_value page sprite (walked row.walk m) + 1))
    (sym cell)))
    (λ k hk out. elim out [
      | inl before ↦ c.part_of-strip.ensures.outside k hk (inl (omega arith))
      | inr past ↦ c.part_of-strip.ensures.outside k hk (inr (omega arith))
    ])
    ∙ ap (λ (m : ℕ). clipped f m right row.v (row.v + 1) a b) from_left
    ∙ ap (λ (m : ℕ). clipped f (max row.columns.first (4 * q)) m row.v (row.v + 1) a b) to_right)
