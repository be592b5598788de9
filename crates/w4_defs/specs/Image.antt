-- The image of a page, as a PPM file (Netpbm, raw PPM): `P6`, `160 160` and `255` on lines of their own,
-- then red, green and blue of each pixel in rows from the top, 76,815 bytes in all.
use Rattle.std.specs.Prelude.{◌≡◌, ℕ, ◌/◌, ◌%◌, List, [], ◌∷◌, ◌++◌, flat_map, length}
use Rattle.std.specs.List.{range_with_len}
use Rattle.w4_defs.specs.Framebuffer.{pixel}
use Rattle.w4_defs.specs.MemoryMap.{palette}

abbrev pub image_header : List ℕ
image_header = 80 ∷ 54 ∷ 10 ∷ 49 ∷ 54 ∷ 48 ∷ 32 ∷ 49 ∷ 54 ∷ 48 ∷ 10 ∷ 50 ∷ 53 ∷ 53 ∷ 10 ∷ []

-- the colour of the n-th pixel in rows from the top
abbrev pub pixel_colour : List ℕ → ℕ → List ℕ
pixel_colour page n = palette page (pixel page (n % 160) (n / 160))

-- the colours of `count` pixels from the n-th on
unfoldable pub pixel_colours : List ℕ → ℕ → ℕ → List ℕ
pixel_colours page n count = flat_map (pixel_colour page) (range_with_len n count)

unfoldable pub image : List ℕ → List ℕ
image page = image_header ++ pixel_colours page 0 25600

-- an image has 76,815 bytes, whatever the page
abbrev pub ImageLength : Type 0
ImageLength = (page : List ℕ) → length (image page) ≡ 76815
