-- Numbers (Core Specification, section 5.2): LEB128 with at most ceil(w / 7) bytes for w bits. The
-- unused bits of the last possible byte are 0 in an unsigned number, and the sign bit in a signed one.
-- A longer encoding than needed is read where it keeps these bounds.
use Rattle.std.specs.Prelude.{◌≡◌, ℕ, ◌+◌, ◌-◌, ◌*◌, ◌^◌, ◌<◌, ◌≤◌, ◌⊎◌, [], ◌∷◌, length}
use Rattle.std.specs.Int.{Width, byte_len, from_le_bytes}
use Rattle.w4_defs.specs.BinaryText.{Texts}

-- LEB128 of w bits: a last byte, or a byte whose low seven bits are the lowest, and then the number of w - 7
-- bits above them
abbrev pub leb : (ℕ → ℕ → ℕ → Type 0) → ℕ → ℕ → Texts
leb Last w n [] = ⊥
leb Last w n (b ∷ bs) =
    ((bs ≡ []) × Last w b n)
    ⊎ ((128 ≤ b) × (7 < w) × (m : ℕ) × (n + 128 ≡ b + 128 * m) × leb Last (w - 7) m bs)

-- the byte b alone is n, below 2 ^ w
abbrev pub LastUnsigned : ℕ → ℕ → ℕ → Type 0
LastUnsigned w b n = (b < 128) × (b < 2 ^ w) × (n ≡ b)

-- the byte b alone is a number from -2 ^ (w - 1) to below 2 ^ (w - 1), and n is that number modulo 2 ^ w
abbrev pub LastSigned : ℕ → ℕ → ℕ → Type 0
LastSigned w b n =
    ((b < 64) × (2 * b < 2 ^ w) × (n ≡ b))
    ⊎ ((64 ≤ b) × (b < 128) × (256 ≤ 2 * b + 2 ^ w) × (n + 128 ≡ b + 2 ^ w))

-- a number below 2 ^ w
abbrev pub unsigned : ℕ → ℕ → Texts
unsigned w n = leb LastUnsigned w n

-- a signed number, as the number modulo 2 ^ w
abbrev pub signed : ℕ → ℕ → Texts
signed w n = leb LastSigned w n

-- a number of fixed width, the lowest byte first
abbrev pub little_endian : Width → ℕ → Texts
little_endian w n text = (length text ≡ byte_len w) × (n ≡ from_le_bytes w text)

-- worked cases: 160 and -1; and 4 in five bytes
abbrev pub NumberCases : Type 0
NumberCases =
    signed 32 160 (0xa0 ∷ 0x01 ∷ []) × signed 32 0xffffffff (0x7f ∷ [])
    × signed 64 0xffffffffffffffff (0x7f ∷ [])
    × unsigned 32 4 (0x84 ∷ 0x80 ∷ 0x80 ∷ 0x80 ∷ 0x00 ∷ [])

-- bytes with a bit past the 32nd encode no number
abbrev pub TooLongNumber : Type 0
TooLongNumber = (n : ℕ) → unsigned 32 n (0x84 ∷ 0x80 ∷ 0x80 ∷ 0x80 ∷ 0x10 ∷ []) → ⊥
