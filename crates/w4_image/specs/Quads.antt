-- The colours of the four pixels in a byte of the framebuffer, by those of the palette indices.
use Rattle.std.specs.Prelude.{ℕ, ◌+◌, ◌*◌, ◌/◌, ◌%◌, List, [], ◌∷◌, ◌++◌, slice_index}

-- the three bytes that colours have for a palette index
abbrev pub index_colour : List ℕ → ℕ → List ℕ
index_colour colours index =
    slice_index colours (3 * index) ∷ slice_index colours (3 * index + 1)
    ∷ slice_index colours (3 * index + 2) ∷ []

-- the twelve bytes of a byte's pixels, the lowest bits first
abbrev pub quad_colours : List ℕ → ℕ → List ℕ
quad_colours colours byte =
    index_colour colours (byte % 4) ++ index_colour colours (byte / 4 % 4)
    ++ index_colour colours (byte / 16 % 4) ++ index_colour colours (byte / 64 % 4)
