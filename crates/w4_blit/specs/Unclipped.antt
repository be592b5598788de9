-- What a sprite and a glyph paint at a pixel of the screen, whether or not it is in their box of cells.
use Rattle.std.specs.Prelude.{ℕ, ◌+◌, ◌-◌, ◌/◌, ◌%◌, ◌^◌, ◌==◌, if◌then◌else◌, Option, List, ℤ, pos, ◌-ℤ◌}
use Rattle.w4_defs.specs.declared.sprite.Sprite.{Sprite}
use Rattle.w4_defs.specs.Framebuffer.{Painter}
use Rattle.w4_defs.specs.Colours.{palette_index}
use Rattle.w4_defs.specs.Shapes.{natural}
use Rattle.w4_defs.specs.Blit.{landed_index}
use Rattle.w4_defs.specs.Text.{glyph_bit}

abbrev pub cells_painter : List ℕ → Sprite → ℤ → ℤ → Painter
cells_painter page sprite x y u v = landed_index page sprite (natural (pos u -ℤ x)) (natural (pos v -ℤ y))

abbrev pub bits_painter : List ℕ → ℕ → ℕ → ℤ → ℤ → Painter
bits_painter font colors code x y u v =
    palette_index colors (glyph_bit font code (natural (pos u -ℤ x)) (natural (pos v -ℤ y)) + 1)

-- the same of one row of a glyph, by its eight bits and what a bit 0 and a bit 1 paint
abbrev pub eight_painter : ℕ → Option ℕ → Option ℕ → ℤ → Painter
eight_painter bits ink background x u v =
    if bits / 2 ^ (7 - natural (pos u -ℤ x)) % 2 == 1 then background else ink
