-- One code of a text after another.
use Rattle.std.proofs.Common.{◌≡◌, ℕ, zero, suc, ◌<◌, ◌≤◌, ◌+◌, ◌-◌, ◌*◌, ◌/◌, ◌%◌, ◌^◌, ◌&&◌, get_or, sym}
use Rattle.std.proofs.Common.{◌∙◌, ap, Bool, true, false, List, [], ◌∷◌, length, Option, Some, None, refl}
use Rattle.std.proofs.Common.{inl, inr, arith}
use Rattle.std.specs.Prelude.{ℤ, pos, ◌+ℤ◌, ◌-ℤ◌, ◌≤ℤ◌, ◌==◌, int_le, int_lt, nat_le, nat_lt, if◌then◌else◌}
use Rattle.std.specs.Option.{option_or}
use Rattle.std.proofs.lemmas.Bool.{cases_eq}
use Rattle.std.proofs.lemmas.Bool.Decides.{nat_tests}
use Rattle.std.proofs.lemmas.Int.{ints}
use Rattle.w4_defs.specs.Framebuffer.{paint}
use Rattle.w4_defs.specs.Text.{codes_painter, glyph_bit, glyph_painter}
use Rattle.w4_defs.specs.Colours.{palette_index}
use Rattle.w4_defs.specs.Shapes.{natural, only_if}
use Rattle.w4_defs.proofs.PaintLaws.{paint_step}
use Rattle.w4_pixels.specs.Clipping.{clipped}
use Rattle.w4_pixels.proofs.ClippingLaws.{away}
use Rattle.w4_blit.specs.Unclipped.{bits_painter, eight_painter}
use Rattle.w4_blit.proofs.WindowLaws.{natural_at}

or_none : (o : Option ℕ) → option_or o None ≡ o
or_none None = refl
or_none (Some n) = refl

code_over : (font : List ℕ) (colors code : ℕ) (left x y : ℤ) (codes : List ℕ) (u v : ℕ)
    → option_or (codes_painter font colors left codes (if code == 10 then left else x +ℤ pos 8)
    (if code == 10 then y +ℤ pos 8 else y) u v) (glyph_painter font colors code x y u v)
    ≡ codes_painter font colors left (code ∷ codes) x y u v
code_over font colors code left x y codes u v = elim (cases_eq code 10) [
  | inl newline ↦ rw newline (or_none (codes_painter font colors left codes left (y +ℤ pos 8) u v))
  | inr other ↦ (let off : (code == 10) ≡ false = grind (arith, nat_tests) in rw off refl)
]

-- a code's cells, and then the rest from where the pen stands after it
pub code_first : (page font : List ℕ) (colors code : ℕ) (left x y : ℤ) (codes : List ℕ) → length page ≡ 65536
    → paint (paint page (glyph_painter font colors code x y))
    (codes_painter font colors left codes (if code == 10 then left else x +ℤ pos 8)
    (if code == 10 then y +ℤ pos 8 else y))
    ≡ paint page (codes_painter font colors left (code ∷ codes) x y)
code_first page font colors code left x y codes len =
    paint_step page (glyph_painter font colors code x y)
    (codes_painter font colors left codes (if code == 10 then left else x +ℤ pos 8)
    (if code == 10 then y +ℤ pos 8 else y))
    (codes_painter font colors left (code ∷ codes) x y) len
    (λ u v hu hv. code_over font colors code left x y codes u v)

-- the pen, wherever it goes, stays below a bound
pub either_below : (code : ℕ) (newline other : ℤ) (limit : ℕ) → newline ≤ℤ pos limit → other ≤ℤ pos limit
    → (if code == 10 then newline else other) ≤ℤ pos limit
either_below code newline other limit hn ho = elim (cases_eq code 10) [
  | inl same ↦ rw same hn
  | inr apart ↦ (let off : (code == 10) ≡ false = grind (arith, nat_tests) in rw off ho)
]

-- a bit is 0 or 1
bit_colour : (colors bit : ℕ) → bit < 2
    → (if bit == 1 then palette_index colors 2 else palette_index colors 1) ≡ palette_index colors (bit + 1)
bit_colour colors zero h = refl
bit_colour colors (suc zero) h = refl
bit_colour colors (suc (suc bit)) h = absurd (omega arith)

-- what the cells of a glyph's row paint, by its byte of the font
pub row_of_glyph : (font : List ℕ) (colors code bits : ℕ) (ink background : Option ℕ) (x y : ℤ)
    (left right v a b : ℕ)
    → bits ≡ get_or font (8 * (code - 32) + natural (pos v -ℤ y)) 0
    → ink ≡ palette_index colors 1 → background ≡ palette_index colors 2
    → clipped (eight_painter bits ink background x) left right v (v + 1) a b
    ≡ clipped (bits_painter font colors code x y) left right v (v + 1) a b
row_of_glyph font colors code bits ink background x y left right v a b e eg ei = elim (cases_eq b v) [
  | inl same ↦ (
      let bit = bits / 2 ^ (7 - natural (pos a -ℤ x)) % 2 in
      ap (only_if ((nat_le left a && nat_lt a right) && (nat_le v b && nat_lt b (v + 1))))
      (ap (λ (o : Option ℕ). if bit == 1 then o else ink) ei
      ∙ ap (λ (o : Option ℕ). if bit == 1 then palette_index colors 2 else o) eg
      ∙ bit_colour colors bit (omega arith)
      ∙ ap (λ (byte : ℕ). palette_index colors (byte / 2 ^ (7 - natural (pos a -ℤ x)) % 2 + 1))
      (e ∙ ap (λ (w : ℕ). get_or font (8 * (code - 32) + natural (pos w -ℤ y)) 0) (sym same))))
  | inr n ↦ away ((nat_le left a && nat_lt a right) && (nat_le v b && nat_lt b (v + 1))) _ _
      (grind (arith, nat_tests))
]

-- the first column of a glyph that is on the screen, and the last
pub first_column : (x : ℤ) (left : ℕ) → left < 160
    → ((u : ℕ) → u < 160 → nat_le left u ≡ int_le x (pos u)) → x ≤ℤ pos left
first_column x left h same = let here = same left h in grind (arith, ints, nat_tests)

pub last_column : (x : ℤ) (right : ℕ) → 0 < right → right ≤ 160
    → ((u : ℕ) → u < 160 → nat_le right u ≡ int_le x (pos u)) → pos right ≤ℤ x
last_column x right some h same = let here = same (right - 1) (omega arith) in grind (arith, ints, nat_tests)

-- below the screen no code paints
nothing_or : (o p : Option ℕ) → o ≡ None → p ≡ None → option_or o p ≡ None
nothing_or o p e f = rw (e, f) refl

neither : (b : Bool) (o p : Option ℕ) → o ≡ None → p ≡ None → (if b then o else p) ≡ None
neither true o p e f = e
neither false o p e f = f

not_there : (a b c d : Bool) (o : Option ℕ) → c ≡ false → only_if (a && (b && (c && d))) o ≡ None
not_there true true true d o e = absurd (cc)
not_there true true false d o e = refl
not_there true false c d o e = refl
not_there false b c d o e = refl

row_below : (y : ℤ) (v : ℕ) → v < 160 → pos 160 ≤ℤ y → int_le y (pos v) ≡ false
row_below y v h low = grind (arith, ints)

pub below_screen : (font : List ℕ) (colors : ℕ) (left x y : ℤ) (codes : List ℕ) (u v : ℕ) → v < 160
    → pos 160 ≤ℤ y → codes_painter font colors left codes x y u v ≡ None
below_screen font colors left x y [] u v h low = refl
below_screen font colors left x y (code ∷ codes) u v h low =
    neither (code == 10) (codes_painter font colors left codes left (y +ℤ pos 8) u v)
    (option_or (codes_painter font colors left codes (x +ℤ pos 8) y u v)
    (glyph_painter font colors code x y u v))
    (below_screen font colors left left (y +ℤ pos 8) codes u v h (omega (arith, ints)))
    (nothing_or (codes_painter font colors left codes (x +ℤ pos 8) y u v)
    (glyph_painter font colors code x y u v)
    (below_screen font colors left (x +ℤ pos 8) y codes u v h low)
    (not_there (nat_le 32 code && nat_lt code 256) (int_le x (pos u) && int_lt (pos u) (x +ℤ pos 8))
    (int_le y (pos v)) (int_lt (pos v) (y +ℤ pos 8))
    (palette_index colors (glyph_bit font code (natural (pos u -ℤ x)) (natural (pos v -ℤ y)) + 1))
    (row_below y v h low)))

-- a glyph's column on the screen, from the first that is
pub from_first : (x : ℤ) (left right n : ℕ) → left < right → x ≤ℤ pos left → pos right ≤ℤ (x +ℤ pos 8)
    → n ≡ natural (pos left -ℤ x) → n + (right - left) ≤ 8
from_first x left right n some from to e =
    let near : pos (natural (pos left -ℤ x)) ≡ pos left -ℤ x =
    natural_at (pos left -ℤ x) (omega (arith, ints)) in
    omega (arith, ints)

-- what a cell paints, by its bit as a digit
pub by_bit : (colors bits n digit : ℕ) (o : Option ℕ) → digit ≡ 3 * (bits / 2 ^ (7 - n) % 2)
    → (digit ≡ 0 → o ≡ palette_index colors 1) → (digit ≡ 3 → o ≡ palette_index colors 2)
    → o ≡ (if bits / 2 ^ (7 - n) % 2 == 1 then palette_index colors 2 else palette_index colors 1)
by_bit colors bits n digit o e first second = elim (cases_eq (bits / 2 ^ (7 - n) % 2) 1) [
  | inl one ↦ (
      let test : (bits / 2 ^ (7 - n) % 2 == 1) ≡ true = grind (arith, nat_tests) in
      rw test (second (omega arith)))
  | inr none ↦ (
      let test : (bits / 2 ^ (7 - n) % 2 == 1) ≡ false = grind (arith, nat_tests) in
      rw test (first (omega arith)))
]
