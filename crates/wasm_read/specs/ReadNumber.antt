-- Reading of numbers (Core Specification, section 5.2).
use Rattle.std.specs.Prelude.{ℕ, ◌+◌, ◌-◌, ◌*◌, ◌^◌, nat_lt, nat_le, if◌then◌else◌, List, [], ◌∷◌, Option}
use Rattle.std.specs.Prelude.{Some, None}
use Rattle.w4_defs.specs.Reading.{◌>>=◌}
use Rattle.wasm_read.specs.Reader.{Reader}

-- the last byte of a LEB128 of w bits
abbrev pub last_unsigned : ℕ → ℕ → Option ℕ
last_unsigned w b = if nat_lt b (2 ^ w) then Some b else None

abbrev pub last_signed : ℕ → ℕ → Option ℕ
last_signed w b =
    if nat_lt b 64 then (if nat_lt (2 * b) (2 ^ w) then Some b else None)
    else (if nat_le 256 (2 * b + 2 ^ w) then Some (b + 2 ^ w - 128) else None)

-- a byte of seven low bits, and then the number of the others
abbrev pub with_low_bits : ℕ → ℕ × List ℕ → ℕ × List ℕ
with_low_bits b high = (b - 128 + 128 * high.0, high.1)

abbrev pub leb_at : (ℕ → ℕ → Option ℕ) → ℕ → Reader ℕ
leb_at last w [] = None
leb_at last w (b ∷ bs) =
    if nat_lt b 128 then (last w b >>= λ n. Some (n, bs))
    else (if nat_lt 7 w then (leb_at last (w - 7) bs >>= λ high. Some (with_low_bits b high)) else None)

unfoldable pub unsigned_at : ℕ → Reader ℕ
unsigned_at w = leb_at last_unsigned w

unfoldable pub signed_at : ℕ → Reader ℕ
signed_at w = leb_at last_signed w
