-- Masks of sixteen two-bit digits.
use Rattle.std.specs.Prelude.{◌≡◌, ℕ, ◌/◌, ◌%◌, ◌^◌, ◌<◌, ◌||◌, true, ◌==◌}

-- each digit is 0 or 3
abbrev pub IsMask : ℕ → Type 0
IsMask mask = (k : ℕ) → k < 16 → (mask / 4 ^ k % 4 == 0 || mask / 4 ^ k % 4 == 3) ≡ true
