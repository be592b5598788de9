-- Worked drawings, each worked out from the rule in words: an oval that isn't square, lines that are steep or
-- go to the left, blits that are flipped, rotated or cut from a larger sprite, and a glyph with ink on one
-- side.
use Rattle.std.specs.Prelude.{◌≡◌, ℕ, List, [], ◌∷◌, Some, None, pos, refl}
use Rattle.w4_defs.specs.declared.sprite.Sprite.{Sprite}
use Rattle.w4_defs.specs.Framebuffer.{Painter}
use Rattle.w4_defs.specs.Shapes.{asked, line_painter, oval_painter}
use Rattle.w4_defs.specs.Blit.{blit_painter}
use Rattle.w4_defs.specs.Text.{text_painter}

-- 6 by 3 and 3 by 5 cells, inside in colour 1 and edge in colour 2
abbrev pub OblongOvals : Type 0
OblongOvals = let across : Painter = oval_painter 50 (pos 0) (pos 0) (pos 6) (pos 3) in
    let upright : Painter = oval_painter 50 (pos 0) (pos 0) (pos 3) (pos 5) in
    (asked across 7 0 ≡ None ∷ Some 2 ∷ Some 2 ∷ Some 2 ∷ Some 2 ∷ None ∷ None ∷ [])
    × (asked across 7 1 ≡ Some 2 ∷ Some 1 ∷ Some 1 ∷ Some 1 ∷ Some 1 ∷ Some 2 ∷ None ∷ [])
    × (asked across 7 2 ≡ None ∷ Some 2 ∷ Some 2 ∷ Some 2 ∷ Some 2 ∷ None ∷ None ∷ [])
    × (asked upright 4 0 ≡ None ∷ Some 2 ∷ None ∷ None ∷ [])
    × (asked upright 4 1 ≡ Some 2 ∷ Some 1 ∷ Some 2 ∷ None ∷ [])
    × (asked upright 4 2 ≡ Some 2 ∷ Some 1 ∷ Some 2 ∷ None ∷ [])
    × (asked upright 4 3 ≡ Some 2 ∷ Some 1 ∷ Some 2 ∷ None ∷ [])
    × (asked upright 4 4 ≡ None ∷ Some 2 ∷ None ∷ None ∷ [])

pub oblong-ovals : OblongOvals
oblong-ovals = (refl, refl, refl, refl, refl, refl, refl, refl)

-- (0, 0) to (2, 5), and (5, 0) to (0, 2), in colour 1
abbrev pub SteepAndLeftLines : Type 0
SteepAndLeftLines = let steep : Painter = line_painter 2 (pos 0) (pos 0) (pos 2) (pos 5) in
    let left : Painter = line_painter 2 (pos 5) (pos 0) (pos 0) (pos 2) in
    (asked steep 4 0 ≡ Some 1 ∷ None ∷ None ∷ None ∷ [])
    × (asked steep 4 1 ≡ Some 1 ∷ None ∷ None ∷ None ∷ [])
    × (asked steep 4 2 ≡ None ∷ Some 1 ∷ None ∷ None ∷ [])
    × (asked steep 4 3 ≡ None ∷ Some 1 ∷ None ∷ None ∷ [])
    × (asked steep 4 4 ≡ None ∷ None ∷ Some 1 ∷ None ∷ [])
    × (asked steep 4 5 ≡ None ∷ None ∷ Some 1 ∷ None ∷ [])
    × (asked left 7 0 ≡ None ∷ None ∷ None ∷ None ∷ Some 1 ∷ Some 1 ∷ None ∷ [])
    × (asked left 7 1 ≡ None ∷ None ∷ Some 1 ∷ Some 1 ∷ None ∷ None ∷ None ∷ [])
    × (asked left 7 2 ≡ Some 1 ∷ Some 1 ∷ None ∷ None ∷ None ∷ None ∷ None ∷ [])

pub steep-and-left-lines : SteepAndLeftLines
steep-and-left-lines = (refl, refl, refl, refl, refl, refl, refl, refl, refl)

-- 3 by 2 pixels of two bits, 1 2 3 over 0 0 1, each value in its own entry: flip x, flip y, rotated, and all
-- three
abbrev pub worked_sprite : ℕ → Sprite
worked_sprite flags =
    record { colors = 17185; ptr = 0; w = 3; h = 2; src_x = 0; src_y = 0; stride = 3; flags = flags }

abbrev pub TurnedSprites : Type 0
TurnedSprites = let page : List ℕ = 108 ∷ 16 ∷ [] in
    let flipped_x : Painter = blit_painter page (worked_sprite 3) (pos 0) (pos 0) in
    let flipped_y : Painter = blit_painter page (worked_sprite 5) (pos 0) (pos 0) in
    let rotated : Painter = blit_painter page (worked_sprite 9) (pos 0) (pos 0) in
    let all_three : Painter = blit_painter page (worked_sprite 15) (pos 0) (pos 0) in
    (asked flipped_x 4 0 ≡ Some 3 ∷ Some 2 ∷ Some 1 ∷ None ∷ [])
    × (asked flipped_x 4 1 ≡ Some 1 ∷ Some 0 ∷ Some 0 ∷ None ∷ [])
    × (asked flipped_x 4 2 ≡ None ∷ None ∷ None ∷ None ∷ [])
    × (asked flipped_y 4 0 ≡ Some 0 ∷ Some 0 ∷ Some 1 ∷ None ∷ [])
    × (asked flipped_y 4 1 ≡ Some 1 ∷ Some 2 ∷ Some 3 ∷ None ∷ [])
    × (asked flipped_y 4 2 ≡ None ∷ None ∷ None ∷ None ∷ [])
    × (asked rotated 3 0 ≡ Some 3 ∷ Some 1 ∷ None ∷ [])
    × (asked rotated 3 1 ≡ Some 2 ∷ Some 0 ∷ None ∷ [])
    × (asked rotated 3 2 ≡ Some 1 ∷ Some 0 ∷ None ∷ [])
    × (asked rotated 3 3 ≡ None ∷ None ∷ None ∷ [])
    × (asked all_three 3 0 ≡ Some 0 ∷ Some 1 ∷ None ∷ [])
    × (asked all_three 3 1 ≡ Some 0 ∷ Some 2 ∷ None ∷ [])
    × (asked all_three 3 2 ≡ Some 1 ∷ Some 3 ∷ None ∷ [])
    × (asked all_three 3 3 ≡ None ∷ None ∷ None ∷ [])

pub turned-sprites : TurnedSprites
turned-sprites = (refl, refl, refl, refl, refl, refl, refl, refl, refl, refl, refl, refl, refl, refl)

-- 3 by 2 pixels of one bit from column 2 and row 1 on, of a sprite of 6 columns: 110100, 011011, 010010
abbrev pub CutSprite : Type 0
CutSprite = let page : List ℕ = 209 ∷ 180 ∷ 128 ∷ [] in
    let cut : Sprite =
    record { colors = 17185; ptr = 0; w = 3; h = 2; src_x = 2; src_y = 1; stride = 6; flags = 0 } in
    let f : Painter = blit_painter page cut (pos 0) (pos 0) in
    (asked f 4 0 ≡ Some 1 ∷ Some 0 ∷ Some 1 ∷ None ∷ [])
    × (asked f 4 1 ≡ Some 0 ∷ Some 0 ∷ Some 1 ∷ None ∷ [])
    × (asked f 4 2 ≡ None ∷ None ∷ None ∷ None ∷ [])

pub cut-sprite : CutSprite
cut-sprite = (refl, refl, refl)

-- code 32 by a font whose first row is 00001111 and whose second is 11110000: a bit 0 is ink, in colour 1
abbrev pub OneSidedGlyph : Type 0
OneSidedGlyph = let f : Painter = text_painter (15 ∷ 240 ∷ []) 50 (32 ∷ []) (pos 0) (pos 0) in
    (asked f 9 0 ≡ Some 1 ∷ Some 1 ∷ Some 1 ∷ Some 1 ∷ Some 2 ∷ Some 2 ∷ Some 2 ∷ Some 2 ∷ None ∷ [])
    × (asked f 9 1 ≡ Some 2 ∷ Some 2 ∷ Some 2 ∷ Some 2 ∷ Some 1 ∷ Some 1 ∷ Some 1 ∷ Some 1 ∷ None ∷ [])

pub one-sided-glyph : OneSidedGlyph
one-sided-glyph = (refl, refl)
