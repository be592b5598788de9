-- The cells of a row, by the even distances of the pixels that they read.
use Rattle.std.proofs.Common.{◌≡◌, ℕ, ◌+◌, ◌-◌, ◌*◌, ◌/◌, ◌%◌, ◌^◌, ◌<◌, ◌≤◌, Bool, true, false, ◌&&◌, cond}
use Rattle.std.proofs.Common.{List, length, get_or, Option, refl, sym, ◌∙◌, ap, inl, inr, arith}
use Rattle.std.specs.Prelude.{ℤ, pos, ◌-ℤ◌, ◌==◌, nat_le, nat_lt, if◌then◌else◌}
use Rattle.std.proofs.lemmas.Bool.{cases_eq}
use Rattle.std.proofs.lemmas.Bool.Decides.{nat_tests}
use Rattle.std.proofs.lemmas.List.{get_or_past}
use Rattle.std.proofs.Math.Nat.{zero-div, zero-mod}
use Rattle.w4_defs.specs.declared.sprite.Sprite.{Sprite}
use Rattle.w4_defs.specs.Colours.{palette_index}
use Rattle.w4_defs.specs.Shapes.{natural, only_if}
use Rattle.w4_defs.specs.Blit.{has_flag, source_column, source_row, source_value, landed_index}
use Rattle.w4_pixels.specs.Clipping.{clipped}
use Rattle.w4_pixels.proofs.ClippingLaws.{away}
use Rattle.w4_blit.specs.Unclipped.{cells_painter}
use Rattle.w4_blit.specs.Walks.{as_good_as, landed_pixel, walk_painter, walked}
use Rattle.w4_blit.specs.declared.walks.Walk.{Walk}

-- ---- pixels behind the page's last

either_zero : (b : Bool) (x y : ℕ) → x ≡ 0 → y ≡ 0 → cond b x y ≡ 0
either_zero true x y ex ey = ex
either_zero false x y ex ey = ey

bits_of_none : (page : List ℕ) (at power base : ℕ) → length page ≤ at → get_or page at 0 / power % base ≡ 0
bits_of_none page at power base h =
    ap (λ byte. byte / power % base) (get_or_past page at 0 h) ∙ ap (λ n. n % base) (zero-div power)
    ∙ zero-mod base

far_value : (page : List ℕ) (sprite : Sprite) (q : ℕ) → length page ≡ 65536 → 524288 ≤ q
    → source_value page sprite q ≡ 0
far_value page sprite q len far = either_zero (has_flag sprite 1) _ _
    (bits_of_none page (sprite.ptr + q / 4) (4 ^ (3 - q % 4)) 4 (omega arith))
    (bits_of_none page (sprite.ptr + q / 8) (2 ^ (7 - q % 8)) 2 (omega arith))

same_value : (page : List ℕ) (sprite : Sprite) (p q : ℕ) → length page ≡ 65536 → as_good_as p q
    → source_value page sprite p ≡ source_value page sprite q
same_value page sprite p q len good = elim good [
  | inl e ↦ ap (source_value page sprite) e
  | inr far ↦ far_value page sprite p len far.0 ∙ sym (far_value page sprite q len far.1)
]

as_good_more : (p q more : ℕ) → as_good_as p q → as_good_as (p + more) (q + more)
as_good_more p q more good = elim good [
  | inl e ↦ inl (ap (λ n. n + more) e)
  | inr far ↦ inr (omega arith, omega arith)
]

as_good_same : (p q r : ℕ) → as_good_as p q → q ≡ r → as_good_as p r
as_good_same p q r good e = rw (sym e) good

-- ---- a row of the sprite

-- two flags of which the second is unset are equal where the first is unset too
other_way : (a b n m : ℕ) → a < 2 → b < 2 → (b == 1) ≡ false → (if a == b then n else m) ≡ (if a == 1 then
    m else n)
other_way a b n m ha hb unset = elim (cases_eq a 1) [
  | inl e ↦ (
      let apart : (a == b) ≡ false = grind (arith, nat_tests) in
      let set : (a == 1) ≡ true = grind (arith, nat_tests) in
      rw (apart, set) refl)
  | inr e ↦ (
      let same : (a == b) ≡ true = grind (arith, nat_tests) in
      let off : (a == 1) ≡ false = grind (arith, nat_tests) in
      rw (same, off) refl)
]

column_of_cell : (sprite : Sprite) (n : ℕ) → has_flag sprite 8 ≡ false
    → source_column sprite n ≡ sprite.src_x + (if has_flag sprite 2 then sprite.w - 1 - n else n)
column_of_cell sprite n upright =
    ap (λ (k : ℕ). sprite.src_x + k)
    (other_way (sprite.flags / 2 % 2) (sprite.flags / 8 % 2) n (sprite.w - 1 - n) (omega arith) (omega
    arith)
    upright)

pub good_across : (sprite : Sprite) (start n below : ℕ) (backward : Bool) → has_flag sprite 8 ≡ false
    → backward ≡ has_flag sprite 2
    → as_good_as start (source_row sprite below * sprite.stride + sprite.src_x)
    → as_good_as (start + 1 * (if backward then sprite.w - 1 - n else n)) (landed_pixel sprite n below)
good_across sprite start n below backward upright back good =
    let m = if backward then sprite.w - 1 - n else n in
    let flipped = if has_flag sprite 2 then sprite.w - 1 - n else n in
    let same : m ≡ flipped = ap (λ (b : Bool). if b then sprite.w - 1 - n else n) back in
    let row = source_row sprite below * sprite.stride in
    let pixel : (row + sprite.src_x) + 1 * m ≡ row + (sprite.src_x + flipped) = omega arith in
    as_good_same (start + 1 * m) ((row + sprite.src_x) + 1 * m) (landed_pixel sprite n below)
    (as_good_more start (row + sprite.src_x) (1 * m) good)
    (pixel ∙ ap (λ (k : ℕ). row + k) (sym (column_of_cell sprite n upright))
    ∙ sym (ap (λ (b : Bool). if b then source_row sprite n * sprite.stride + source_column sprite below
    else row + source_column sprite n) upright))

-- ---- a column of the sprite

rows_apart : (row more stride column : ℕ)
    → (row * stride + column) + stride * more ≡ (row + more) * stride + column
rows_apart row more stride column = grind arith

pub good_down : (sprite : Sprite) (start n below : ℕ) (backward : Bool) → has_flag sprite 8 ≡ true
    → backward ≡ has_flag sprite 4
    → as_good_as start (sprite.src_y * sprite.stride + source_column sprite below)
    → as_good_as (start + sprite.stride * (if backward then sprite.h - 1 - n else n))
    (landed_pixel sprite n below)
good_down sprite start n below backward turned back good =
    let m = if backward then sprite.h - 1 - n else n in
    let column = source_column sprite below in
    as_good_same (start + sprite.stride * m) ((sprite.src_y * sprite.stride + column) + sprite.stride * m)
    (landed_pixel sprite n below)
    (as_good_more start (sprite.src_y * sprite.stride + column) (sprite.stride * m) good)
    (rows_apart sprite.src_y m sprite.stride column
    ∙ ap (λ (b : Bool). (sprite.src_y + (if b then sprite.h - 1 - n else n)) * sprite.stride + column) back
    ∙ sym (ap (λ (b : Bool). if b then source_row sprite n * sprite.stride + column
    else source_row sprite below * sprite.stride + source_column sprite n) turned))

-- ---- the cells

chosen_pixel : (b : Bool) (p q : ℕ) (f : ℕ → Option ℕ) → f (cond b p q) ≡ cond b (f p) (f q)
chosen_pixel true p q f = refl
chosen_pixel false p q f = refl

-- what a row's cells paint is what the sprite's cells in this row paint
pub walked_cells : (page : List ℕ) (sprite : Sprite) (walk : Walk) (x y : ℤ) (left right v below a b : ℕ)
    → length page ≡ 65536 → below ≡ natural (pos v -ℤ y)
    → ((n : ℕ) → as_good_as (walked walk n) (landed_pixel sprite n below))
    → clipped (walk_painter page sprite walk x) left right v (v + 1) a b
    ≡ clipped (cells_painter page sprite x y) left right v (v + 1) a b
walked_cells page sprite walk x y left right v below a b len eb good = elim (cases_eq b v) [
  | inl e ↦ (
      let n = natural (pos a -ℤ x) in
      let f : ℕ → Option ℕ = λ q. palette_index sprite.colors (source_value page sprite q + 1) in
      ap (only_if ((nat_le left a && nat_lt a right) && (nat_le v b && nat_lt b (v + 1))))
      (ap (λ value. palette_index sprite.colors (value + 1))
      (same_value page sprite (walked walk n) (landed_pixel sprite n below) len (good n))
      ∙ chosen_pixel (has_flag sprite 8) _ _ f
      ∙ ap (landed_index page sprite n) (eb ∙ ap (λ (w : ℕ). natural (pos w -ℤ y)) (sym e))))
  | inr n ↦ away ((nat_le left a && nat_lt a right) && (nat_le v b && nat_lt b (v + 1))) _ _
      (grind (arith, nat_tests))
]
