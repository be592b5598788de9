-- The pixels of a sprite that the cells in a row of the screen read: they stand at even distances.
use Rattle.std.specs.Prelude.{◌≡◌, ℕ, ◌+◌, ◌-◌, ◌*◌, ◌/◌, ◌%◌, ◌^◌, ◌≤◌, ◌⊎◌, List, if◌then◌else◌, Option, ℤ}
use Rattle.std.specs.Prelude.{pos, ◌-ℤ◌}
use Rattle.w4_defs.specs.declared.sprite.Sprite.{Sprite}
use Rattle.w4_defs.specs.Framebuffer.{Painter}
use Rattle.w4_defs.specs.Colours.{palette_index}
use Rattle.w4_defs.specs.Shapes.{natural}
use Rattle.w4_defs.specs.Blit.{has_flag, source_column, source_row, source_value}
use Rattle.w4_blit.specs.declared.walks.Walk.{Walk}

-- the pixel that cell n reads
abbrev pub walked : Walk → ℕ → ℕ
walked walk n = walk.start + walk.pace * (if walk.backward then walk.count - 1 - n else n)

-- the pixel that the cell so far to the right and below reads
abbrev pub landed_pixel : Sprite → ℕ → ℕ → ℕ
landed_pixel sprite right below =
    if has_flag sprite 8
    then source_row sprite right * sprite.stride + source_column sprite below
    else source_row sprite below * sprite.stride + source_column sprite right

-- the same pixel, or both behind the last that the page has room for, where all have the value 0
abbrev pub as_good_as : ℕ → ℕ → Type 0
as_good_as a b = (a ≡ b) ⊎ ((524288 ≤ a) × (524288 ≤ b))

-- what a pixel of the sprite paints
abbrev pub pixel_index : List ℕ → Sprite → ℕ → Option ℕ
pixel_index page sprite pixel = palette_index sprite.colors (source_value page sprite pixel + 1)

-- the value of the pixel that stands k behind `pixel`, from the byte of `pixel` and the one after it
abbrev pub window_value : Sprite → ℕ → ℕ → ℕ → ℕ
window_value sprite window pixel k =
    if has_flag sprite 1
    then window / 2 ^ (14 - 2 * (pixel % 4 + k)) % 4
    else window / 2 ^ (15 - (pixel % 8 + k)) % 2

-- what the cells of a row paint at a column of the screen
abbrev pub walk_painter : List ℕ → Sprite → Walk → ℤ → Painter
walk_painter page sprite walk x u v =
    pixel_index page sprite (walked walk (natural (pos u -ℤ x)))
