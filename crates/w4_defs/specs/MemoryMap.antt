-- The registers of the page (WASM-4 memory map): the palette at 0x04, DRAW_COLORS at 0x14, the gamepads
-- at 0x16, the mouse at 0x1a, the system flags at 0x1f. Numbers of several bytes have the lowest first.
use Rattle.std.specs.Prelude.{◌<◌, ◌≤◌, ◌⊎◌, length, ◌≡◌, ℕ, ◌+◌, ◌*◌, ◌/◌, ◌%◌, Bool, List, [], ◌∷◌, slice_index, ◌==◌, refl}
use Rattle.std.specs.Int.{cast_unsigned, w16}
use Rattle.w4_defs.specs.declared.console.Input.{Input}
use Rattle.w4_defs.specs.Bytes.{replaced}
use Rattle.w4_defs.specs.Framebuffer.{Painter, paint}

-- red, green and blue by a palette index, 0 to 3: the palette has 32 bits 0xRRGGBB for each, so that blue
-- comes first
abbrev pub palette : List ℕ → ℕ → List ℕ
palette page index =
    let at = 4 + 4 * index in
    slice_index page (at + 2) ∷ slice_index page (at + 1) ∷ slice_index page at ∷ []

-- palette index 0 encoded cf f8 e0 00 is red e0, green f8, blue cf
pub palette-case : palette (0 ∷ 0 ∷ 0 ∷ 0 ∷ 207 ∷ 248 ∷ 224 ∷ 0 ∷ []) 0 ≡ 224 ∷ 248 ∷ 207 ∷ []
palette-case = refl

-- DRAW_COLORS, 16 bits
abbrev pub draw_colors : List ℕ → ℕ
draw_colors page = slice_index page 20 + 256 * slice_index page 21

abbrev pub system_flags : List ℕ → ℕ
system_flags page = slice_index page 31

-- system flag 1: the framebuffer is kept between frames
abbrev pub keeps_framebuffer : List ℕ → Bool
keeps_framebuffer page = system_flags page % 2 == 1

-- the nine bytes of an input: four gamepads, mouse x and y as signed 16 bits, mouse buttons
abbrev pub input_bytes : Input → List ℕ
input_bytes input =
    let x = cast_unsigned w16 input.mouse_x in
    let y = cast_unsigned w16 input.mouse_y in
    slice_index input.pads 0 ∷ slice_index input.pads 1 ∷ slice_index input.pads 2 ∷ slice_index input.pads 3
    ∷ x % 256 ∷ x / 256 ∷ y % 256 ∷ y / 256 ∷ input.buttons ∷ []

-- the page with an input in its registers
abbrev pub put_input : List ℕ → Input → List ℕ
put_input page input = replaced page 22 9 (input_bytes input)

-- ---- laws of the registers, of a page of 65,536 bytes

-- an input changes its nine bytes alone
abbrev pub InputIsPut : Type 0
InputIsPut = (page : List ℕ) (input : Input) → length page ≡ 65536 →
    (length (put_input page input) ≡ 65536)
    × ((k : ℕ) → k < 9 → slice_index (put_input page input) (22 + k) ≡ slice_index (input_bytes input) k)
    × ((i : ℕ) → (i < 22) ⊎ (31 ≤ i) → slice_index (put_input page input) i ≡ slice_index page i)

-- painting leaves every register
abbrev pub PaintLeavesRegisters : Type 0
PaintLeavesRegisters = (page : List ℕ) (f : Painter) → length page ≡ 65536 →
    (draw_colors (paint page f) ≡ draw_colors page)
    × (system_flags (paint page f) ≡ system_flags page)
    × ((index : ℕ) → index < 4 → palette (paint page f) index ≡ palette page index)
