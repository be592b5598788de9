-- The shortest encodings of numbers (Core Specification, section 5.2.2): LEB128, seven bits a byte, the
-- lowest first, up to the first byte that can be the last one. `turns` bounds how many bytes there are.
use Rattle.std.specs.Prelude.{ℕ, zero, suc, ◌+◌, ◌-◌, ◌*◌, ◌/◌, ◌%◌, ◌^◌, Bool, nat_lt, nat_le, if◌then◌else◌, List, [], ◌∷◌}

abbrev pub unsigned_in : ℕ → ℕ → List ℕ
unsigned_in zero n = []
unsigned_in (suc turns) n = if nat_lt n 128 then n ∷ [] else (n % 128 + 128) ∷ unsigned_in turns (n / 128)

unfoldable pub unsigned_bytes : ℕ → List ℕ
unsigned_bytes n = unsigned_in (suc n) n

-- a signed number of w bits is given modulo 2 ^ w; whether it is from -64 to 63
abbrev pub is_last : ℕ → ℕ → Bool
is_last w n = if nat_lt (2 * n) (2 ^ w) then nat_lt n 64 else nat_le (2 ^ w) (n + 64)

-- its seven bits, if so
abbrev pub last_byte : ℕ → ℕ → ℕ
last_byte w n = if nat_lt (2 * n) (2 ^ w) then n else n + 128 - 2 ^ w

abbrev pub signed_in : ℕ → ℕ → ℕ → List ℕ
signed_in zero w n = []
signed_in (suc turns) w n =
    if is_last w n then last_byte w n ∷ [] else (n % 128 + 128) ∷ signed_in turns (w - 7) (n / 128)

unfoldable pub signed_bytes : ℕ → ℕ → List ℕ
signed_bytes w n = signed_in (suc w) w n
