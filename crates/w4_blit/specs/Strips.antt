-- Sixteen pixels that stand side by side, as digits of two bits, the first the lowest.
use Rattle.std.specs.Prelude.{◌≡◌, ℕ, ◌+◌, ◌/◌, ◌%◌, ◌^◌, ◌<◌, ◌&&◌, ◌||◌, true, ◌-◌, ◌*◌, nat_le, nat_lt}
use Rattle.std.specs.Prelude.{◌==◌, if◌then◌else◌, Option, Some, None}
use Rattle.w4_defs.specs.Framebuffer.{Painter}
use Rattle.w4_defs.specs.Shapes.{only_if}
use Rattle.w4_blit.specs.declared.masks.Strip.{Strip}
use Rattle.w4_blit.specs.declared.masks.Bits.{Bits}

-- the k-th palette index, where the mask's digit isn't 0
abbrev pub masked_index : ℕ → ℕ → ℕ → Option ℕ
masked_index indices mask k = if mask / 4 ^ k % 4 == 0 then None else Some (indices / 4 ^ k % 4)

abbrev pub strip_index : Strip → ℕ → Option ℕ
strip_index strip k = masked_index strip.indices strip.mask k

-- all sixteen are given the same
abbrev pub IsPlain : Strip → Option ℕ → Type 0
IsPlain strip index = (k : ℕ) → k < 16 → strip_index strip k ≡ index

-- the digit that changes places with the k-th, `by` away from it
abbrev pub partner : ℕ → ℕ → ℕ
partner by k = if k / by % 2 == 0 then k + by else k - by

-- the mask has those digits that change places with one below them
abbrev pub Swaps : ℕ → ℕ → Type 0
Swaps by mask = (k : ℕ) → k < 16 → (partner by k < 16)
    × (mask / 4 ^ k % 4 ≡ (if k / by % 2 == 0 then 0 else 3)) × ((k / by % 2 == 0 || nat_le by k) ≡ true)

-- the k-th of sixteen values
abbrev pub HasValue : Bits → ℕ → ℕ → Type 0
HasValue bits k value = (bits.low / 4 ^ k % 4 ≡ 3 * (value % 2)) × (bits.high / 4 ^ k % 4 ≡ 3 * (value / 2))

-- the pixels in byte q of a row
abbrev pub masked_painter : ℕ → ℕ → ℕ → ℕ → Painter
masked_painter q row indices mask u v =
    only_if (u / 4 == q && v == row) (masked_index indices mask (u % 4))

-- those in the four bytes from q on of a row
abbrev pub strip_painter : ℕ → ℕ → Strip → Painter
strip_painter q row strip u v =
    only_if ((nat_le q (u / 4) && nat_lt (u / 4) (q + 4)) && v == row) (strip_index strip (u - 4 * q))
