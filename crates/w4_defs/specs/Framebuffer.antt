-- The framebuffer: 160 by 160 pixels of two bits each, in the page's bytes 0xa0 to 0x199f. Pixel (x, y)
-- stands in framebuffer byte (160 y + x) / 4, in the two bits from bit 2 (x mod 4) (WASM-4 memory map).
use Rattle.std.specs.Prelude.{◌≡◌, ℕ, ◌+◌, ◌-◌, ◌*◌, ◌/◌, ◌%◌, ◌^◌, ◌||◌, ◌<◌, ◌≤◌, ◌⊎◌, List, [], ◌∷◌, ◌++◌, map, length, replicate, nat_lt, nat_le, if◌then◌else◌, slice_index, Option, unwrap_or, refl}
use Rattle.std.specs.List.{range_with_len}
use Rattle.std.specs.Option.{option_or}

-- the palette index, 0 to 3, that stands at (x, y), both below 160
abbrev pub pixel : List ℕ → ℕ → ℕ → ℕ
pixel page x y = slice_index page (160 + (160 * y + x) / 4) / 4 ^ (x % 4) % 4

-- a page whose framebuffer begins with these bytes, for worked cases
abbrev pub page_with : List ℕ → List ℕ
page_with bytes = replicate 160 0 ++ bytes

-- the byte 0xe4 shows its four pixels from the lowest bits on
abbrev pub PixelCase : Type 0
PixelCase = let page = page_with (228 ∷ []) in
    (pixel page 0 0 ≡ 0) × (pixel page 1 0 ≡ 1) × (pixel page 2 0 ≡ 2) × (pixel page 3 0 ≡ 3)

pub pixel-case : PixelCase
pixel-case = (refl, refl, refl, refl)

-- Painting. A painter says for each pixel of the screen which palette index it is given, or that it is left.
abbrev pub Painter : Type 0
Painter = ℕ → ℕ → Option ℕ

-- the pixel after painting: the painter's palette index modulo 4, where there is one, else unchanged
abbrev pub painted_pixel : List ℕ → Painter → ℕ → ℕ → ℕ
painted_pixel page f x y = unwrap_or (f x y) (pixel page x y) % 4

-- the n-th pixel in rows from the top
abbrev pub painted_at : List ℕ → Painter → ℕ → ℕ
painted_at page f n = painted_pixel page f (n % 160) (n / 160)

-- four palette indices as a byte, from the n-th on: the first in the lowest bits
abbrev pub packed : (ℕ → ℕ) → ℕ → ℕ
packed index n = index n + 4 * index (n + 1) + 16 * index (n + 2) + 64 * index (n + 3)

-- a byte of the page after painting: outside the framebuffer unchanged, else four pixels
abbrev pub painted_byte : List ℕ → Painter → ℕ → ℕ
painted_byte page f i =
    if nat_lt i 160 || nat_le 6560 i then slice_index page i else packed (painted_at page f) (4 * (i - 160))

-- the page after painting
unfoldable pub paint : List ℕ → Painter → List ℕ
paint page f = map (painted_byte page f) (range_with_len 0 (length page))

-- g over f: f paints first
abbrev pub over : Painter → Painter → Painter
over g f x y = option_or (g x y) (f x y)

-- painting in words: what the pixels and the other bytes of the page are afterwards
pub record Paints (before after : List ℕ) (f : Painter) : Type 0 where
  pub pixels : (x y : ℕ) → x < 160 → y < 160 → pixel after x y ≡ painted_pixel before f x y
  pub outside : (i : ℕ) → (i < 160) ⊎ (6560 ≤ i) → slice_index after i ≡ slice_index before i
  pub len : length after ≡ length before
  pub bytes : (i : ℕ) → 160 ≤ i → i < 6560 → slice_index after i < 256

-- ---- laws of painting, of a page of 65,536 bytes

-- the painted page is what the words say
abbrev pub PaintIsPainted : Type 0
PaintIsPainted = (page : List ℕ) (f : Painter) → length page ≡ 65536 → Paints page (paint page f) f

-- and no other page is
abbrev pub PaintIsTheOne : Type 0
PaintIsTheOne =
    (before after : List ℕ) (f : Painter) → length before ≡ 65536 → Paints before after f
    → after ≡ paint before f

-- painting twice is painting the one over the other
abbrev pub PaintTwice : Type 0
PaintTwice =
    (page : List ℕ) (f g : Painter) → length page ≡ 65536 → paint (paint page f) g ≡ paint page (over g f)

-- only what a painter says of the screen's pixels counts
abbrev pub PaintOnScreen : Type 0
PaintOnScreen = (page : List ℕ) (f g : Painter) → length page ≡ 65536
    → ((x y : ℕ) → x < 160 → y < 160 → f x y ≡ g x y) → paint page f ≡ paint page g
