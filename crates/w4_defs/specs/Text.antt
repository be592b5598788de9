-- Text: which codes a source gives and what they paint (WASM-4 reference: text, textUtf8, textUtf16).
-- Project rule, the font: 1,792 bytes, eight for each code from 32 to 255, one a row, the highest bit
-- leftmost; a bit 0 is painted in colour 1, a bit 1 in colour 2. Code 10 goes to the first x, 8 further down;
-- every other code moves 8 to the right, and those from 32 to 255 paint 8 by 8 cells.
use Rattle.std.specs.Prelude.{◌≡◌, ℕ, ◌+◌, ◌-◌, ◌*◌, ◌/◌, ◌%◌, ◌^◌, ◌&&◌, not, List, [], ◌∷◌, take, drop, take_while, nat_lt, nat_le, ◌==◌, if◌then◌else◌, slice_index, ℤ, pos, ◌+ℤ◌, ◌-ℤ◌, Option, Some, None, refl}
use Rattle.std.specs.Option.{option_or}
use Rattle.w4_defs.specs.declared.console.TextSource.{TextSource}
use Rattle.w4_defs.specs.declared.console.TextSource.TheVariants.{Cstr, Utf8, Utf16}
use Rattle.w4_defs.specs.Framebuffer.{Painter}
use Rattle.w4_defs.specs.Colours.{palette_index}
use Rattle.w4_defs.specs.Shapes.{only_if, is_inside, natural, asked}

-- the bytes before the first 0, or all
abbrev pub before_zero : List ℕ → List ℕ
before_zero bytes = take_while (λ byte. not (byte == 0)) bytes

-- the bytes of a source: up to the first 0 or the page's end, or so many, cut at the page's end
abbrev pub source_bytes : List ℕ → TextSource → List ℕ
source_bytes page (Cstr ptr) = before_zero (drop ptr page)
source_bytes page (Utf8 ptr len) = take len (drop ptr page)
source_bytes page (Utf16 ptr len) = take len (drop ptr page)

-- the little-endian 16-bit units of some bytes; an odd last byte is ignored
abbrev pub units : List ℕ → List ℕ
units [] = []
units (low ∷ []) = []
units (low ∷ high ∷ rest) = (low + 256 * high) ∷ units rest

-- a byte is a code; a UTF-16 text has its units as codes
abbrev pub text_codes : List ℕ → TextSource → List ℕ
text_codes page (Cstr ptr) = source_bytes page (Cstr ptr)
text_codes page (Utf8 ptr len) = source_bytes page (Utf8 ptr len)
text_codes page (Utf16 ptr len) = units (source_bytes page (Utf16 ptr len))

-- the bit of a code's glyph, 0 or 1
abbrev pub glyph_bit : List ℕ → ℕ → ℕ → ℕ → ℕ
glyph_bit font code column row = slice_index font (8 * (code - 32) + row) / 2 ^ (7 - column) % 2

-- what one code paints at (x, y)
abbrev pub glyph_painter : List ℕ → ℕ → ℕ → ℤ → ℤ → Painter
glyph_painter font colors code x y u v =
    only_if ((nat_le 32 code && nat_lt code 256) && is_inside x (x +ℤ pos 8) y (y +ℤ pos 8) u v)
    (palette_index colors (glyph_bit font code (natural (pos u -ℤ x)) (natural (pos v -ℤ y)) + 1))

-- what codes paint from (x, y) on, where lines begin at column `left`
abbrev pub codes_painter : List ℕ → ℕ → ℤ → List ℕ → ℤ → ℤ → Painter
codes_painter font colors left [] x y u v = None
codes_painter font colors left (code ∷ codes) x y u v =
    if code == 10
    then codes_painter font colors left codes left (y +ℤ pos 8) u v
    else option_or (codes_painter font colors left codes (x +ℤ pos 8) y u v)
    (glyph_painter font colors code x y u v)

abbrev pub text_painter : List ℕ → ℕ → List ℕ → ℤ → ℤ → Painter
text_painter font colors codes x y = codes_painter font colors x codes x y

-- `A`, newline, `B` by a font of zeros: two cells, one below the other, in colour 1
abbrev pub TextCase : Type 0
TextCase = let f : Painter = text_painter [] 2 (65 ∷ 10 ∷ 66 ∷ []) (pos 0) (pos 0) in
    let row : List (Option ℕ) =
    Some 1 ∷ Some 1 ∷ Some 1 ∷ Some 1 ∷ Some 1 ∷ Some 1 ∷ Some 1 ∷ Some 1 ∷ None ∷ [] in
    (asked f 9 0 ≡ row) × (asked f 9 7 ≡ row) × (asked f 9 8 ≡ row) × (asked f 9 15 ≡ row)
    × (asked f 2 16 ≡ None ∷ None ∷ [])

pub text-case : TextCase
text-case = (refl, refl, refl, refl, refl)

-- the three sources over the bytes `41 00 42 00 43`
abbrev pub SourceCase : Type 0
SourceCase = let page : List ℕ = 65 ∷ 0 ∷ 66 ∷ 0 ∷ 67 ∷ [] in
    (text_codes page (Cstr 2) ≡ 66 ∷ []) × (text_codes page (Cstr 4) ≡ 67 ∷ [])
    × (text_codes page (Utf8 3 9) ≡ 0 ∷ 67 ∷ [])
    × (text_codes page (Utf16 0 9) ≡ 65 ∷ 66 ∷ []) × (text_codes page (Utf16 9 1) ≡ [])

pub source-case : SourceCase
source-case = (refl, refl, refl, refl, refl)
