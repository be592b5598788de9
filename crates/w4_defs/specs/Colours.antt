-- DRAW_COLORS has four nibbles, colour 1 the lowest; 0 is transparent (WASM-4 reference). A nibble c of 1
-- or more names palette index (c - 1) mod 4; for c above 4 this is a project rule.
use Rattle.std.specs.Prelude.{◌≡◌, ℕ, ◌-◌, ◌/◌, ◌%◌, ◌^◌, ◌==◌, if◌then◌else◌, Option, Some, None, refl}

-- the palette index of colour 1, 2, 3 or 4; none where the colour is transparent
abbrev pub palette_index : ℕ → ℕ → Option ℕ
palette_index colors number =
    let nibble = colors / 16 ^ (number - 1) % 16 in
    if nibble == 0 then None else Some ((nibble - 1) % 4)

-- of 0x7430 colour 1 is transparent, and colours 2, 3 and 4 are the palette indices 2, 3 and 2
abbrev pub ColoursCase : Type 0
ColoursCase =
    (palette_index 29744 1 ≡ None) × (palette_index 29744 2 ≡ Some 2) × (palette_index 29744 3 ≡ Some 3)
    × (palette_index 29744 4 ≡ Some 2)

pub colours-case : ColoursCase
colours-case = (refl, refl, refl, refl)
