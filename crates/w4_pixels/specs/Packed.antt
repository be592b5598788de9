-- The painters of the calls that write whole bytes, in columns and rows of the screen.
use Rattle.std.specs.Prelude.{◌≡◌, ◌<◌, ◌⊎◌, ℕ, ◌/◌, ◌%◌, ◌^◌, ◌&&◌, nat_le, nat_lt, ◌==◌, if◌then◌else◌}
use Rattle.std.specs.Prelude.{Option, Some}
use Rattle.w4_defs.specs.Framebuffer.{Painter}
use Rattle.w4_defs.specs.Shapes.{only_if}

-- every pixel takes palette index 0
abbrev pub zero_painter : Painter
zero_painter u v = Some 0

-- one pixel
abbrev pub dot_painter : ℕ → ℕ → Option ℕ → Painter
dot_painter u v index a b = only_if (a == u && b == v) index

-- the pixels of a row's bytes from `first` up to `end`
abbrev pub bytes_painter : ℕ → ℕ → ℕ → Option ℕ → Painter
bytes_painter first end row index u v =
    only_if ((nat_le first (u / 4) && nat_lt (u / 4) end) && v == row) index

-- Of the byte's four digits each is 3, or 0: a mask chooses the pixels whose digit is 3.
abbrev pub IsMask : ℕ → Type 0
IsMask mask = (k : ℕ) → k < 4 → (mask / 4 ^ k % 4 ≡ 3) ⊎ (mask / 4 ^ k % 4 ≡ 0)

-- the mask chooses those from `low` up to `high`
abbrev pub Chooses : ℕ → ℕ → ℕ → Type 0
Chooses low high mask = (k : ℕ) → k < 4 → mask / 4 ^ k % 4 ≡ (if nat_le low k && nat_lt k high then 3 else 0)

-- the pixels in byte q of a row that the mask chooses
abbrev pub masked_painter : ℕ → ℕ → ℕ → Option ℕ → Painter
masked_painter q row mask index u v =
    only_if (u / 4 == q && v == row && mask / 4 ^ (u % 4) % 4 == 3) index

-- the k-th of four
abbrev pub one_of_four : ℕ → Option ℕ → Option ℕ → Option ℕ → Option ℕ → Option ℕ
one_of_four k first second third fourth =
    if k == 0 then first else if k == 1 then second else if k == 2 then third else fourth

-- the four pixels in byte q of a row, each by itself
abbrev pub quad_painter : ℕ → ℕ → Option ℕ → Option ℕ → Option ℕ → Option ℕ → Painter
quad_painter q row first second third fourth u v =
    only_if (u / 4 == q && v == row) (one_of_four (u % 4) first second third fourth)

-- the pixels in byte q of a row, by another painter
abbrev pub byte_painter : Painter → ℕ → ℕ → Painter
byte_painter f q row u v = only_if (u / 4 == q && v == row) (f u v)
