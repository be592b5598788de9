-- What a blit paints, asked of the pixels on the screen (WASM-4 reference: blit, blitSub and their flags).
-- All sums and products are exact; a byte past the page's end reads 0; every byte is that of the page at
-- the call. Project rule: how rotation and flips combine. Without rotation cell (i, j) lands at (x + i, y +
-- j), with it at (x + j, y + i). Columns are read backward where exactly one of flip x and rotation is set,
-- rows where flip y is set.
use Rattle.std.specs.Prelude.{◌≡◌, ℕ, ◌+◌, ◌-◌, ◌*◌, ◌/◌, ◌%◌, ◌^◌, Bool, List, [], ◌∷◌, ◌==◌, if◌then◌else◌, slice_index, ℤ, pos, ◌+ℤ◌, ◌-ℤ◌, Option, Some, None, refl}
use Rattle.w4_defs.specs.declared.sprite.Sprite.{Sprite}
use Rattle.w4_defs.specs.Framebuffer.{Painter, painted_byte, page_with}
use Rattle.w4_defs.specs.Colours.{palette_index}
use Rattle.w4_defs.specs.Shapes.{only_if, is_inside, natural, asked}

abbrev pub has_flag : Sprite → ℕ → Bool
has_flag sprite weight = sprite.flags / weight % 2 == 1

-- the value of the sprite's pixel q: two bits or one, the first pixel in a byte's highest bits
abbrev pub source_value : List ℕ → Sprite → ℕ → ℕ
source_value page sprite q =
    if has_flag sprite 1
    then slice_index page (sprite.ptr + q / 4) / 4 ^ (3 - q % 4) % 4
    else slice_index page (sprite.ptr + q / 8) / 2 ^ (7 - q % 8) % 2

-- the column and the row of the sprite that cell (i, j) reads
abbrev pub source_column : Sprite → ℕ → ℕ
source_column sprite i =
    sprite.src_x + (if sprite.flags / 2 % 2 == sprite.flags / 8 % 2 then i else sprite.w - 1 - i)

abbrev pub source_row : Sprite → ℕ → ℕ
source_row sprite j = sprite.src_y + (if has_flag sprite 4 then sprite.h - 1 - j else j)

-- pixel value v is painted in colour v + 1
abbrev pub cell_index : List ℕ → Sprite → ℕ → ℕ → Option ℕ
cell_index page sprite i j =
    palette_index sprite.colors
    (source_value page sprite (source_row sprite j * sprite.stride + source_column sprite i) + 1)

-- the palette index of the cell that lands so far to the right and below
abbrev pub landed_index : List ℕ → Sprite → ℕ → ℕ → Option ℕ
landed_index page sprite right below =
    if has_flag sprite 8 then cell_index page sprite below right else cell_index page sprite right below

-- the width and the height on the screen
abbrev pub width_on_screen : Sprite → ℕ
width_on_screen sprite = if has_flag sprite 8 then sprite.h else sprite.w

abbrev pub height_on_screen : Sprite → ℕ
height_on_screen sprite = if has_flag sprite 8 then sprite.w else sprite.h

abbrev pub blit_painter : List ℕ → Sprite → ℤ → ℤ → Painter
blit_painter page sprite x y u v =
    only_if (is_inside x (x +ℤ pos (width_on_screen sprite)) y (y +ℤ pos (height_on_screen sprite)) u v)
    (landed_index page sprite (natural (pos u -ℤ x)) (natural (pos v -ℤ y)))

-- 8 by 8 at (0, 0), flip x and rotation, where the bytes end after `ff 00 00 01`: column 0 is painted, and
-- (3, 7)
abbrev pub TurnedCase : Type 0
TurnedCase =
    let sprite : Sprite =
    record { colors = 32; ptr = 0; w = 8; h = 8; src_x = 0; src_y = 0; stride = 8; flags = 10 } in
    let f : Painter = blit_painter (255 ∷ 0 ∷ 0 ∷ 1 ∷ []) sprite (pos 0) (pos 0) in
    (asked f 9 0 ≡ Some 1 ∷ None ∷ None ∷ None ∷ None ∷ None ∷ None ∷ None ∷ None ∷ [])
    × (asked f 9 6 ≡ Some 1 ∷ None ∷ None ∷ None ∷ None ∷ None ∷ None ∷ None ∷ None ∷ [])
    × (asked f 9 7 ≡ Some 1 ∷ None ∷ None ∷ Some 1 ∷ None ∷ None ∷ None ∷ None ∷ None ∷ [])
    × (asked f 9 8 ≡ None ∷ None ∷ None ∷ None ∷ None ∷ None ∷ None ∷ None ∷ None ∷ [])

pub turned-case : TurnedCase
turned-case = (refl, refl, refl, refl)

-- two bits a pixel, read from the framebuffer that is painted: byte 1b first, painted one pixel to the
-- right, gives 93 03
abbrev pub OverlapCase : Type 0
OverlapCase =
    let page = page_with (27 ∷ []) in
    let sprite : Sprite =
    record { colors = 17185; ptr = 160; w = 4; h = 1; src_x = 0; src_y = 0; stride = 4; flags = 1 } in
    let f : Painter = blit_painter page sprite (pos 1) (pos 0) in
    (painted_byte page f 160 ≡ 147) × (painted_byte page f 161 ≡ 3)

pub overlap-case : OverlapCase
overlap-case = (refl, refl)
