-- Numbers of 32 bits: in the page, the lowest byte first; by their bytes; and read as signed.
use Rattle.std.specs.Prelude.{◌≡◌, ℕ, ◌/◌, ◌%◌, ◌^◌, List, [], ◌∷◌, ℤ, pos, negsuc, refl}
use Rattle.w4_defs.specs.Bytes.{number_at}
use Rattle.w4_defs.specs.Integers.{as_signed}

-- the number in the four bytes at an address; a byte past the page's end reads 0
abbrev pub word_at : List ℕ → ℕ → ℕ
word_at page at = number_at page at 4

-- byte k of a number, counted from the lowest
abbrev pub byte_of : ℕ → ℕ → ℕ
byte_of number k = number / 256 ^ k % 256

-- 32 bits as a signed number: from 2^31 on, less 2^32
abbrev pub signed_word : ℕ → ℤ
signed_word word = as_signed 32 word

abbrev pub WordCases : Type 0
WordCases =
    (word_at (9 ∷ 251 ∷ 255 ∷ 255 ∷ 255 ∷ []) 1 ≡ 4294967291)
    × (word_at (9 ∷ 251 ∷ []) 1 ≡ 251)
    × (byte_of 67109890 3 ≡ 4)
    × (byte_of 67109890 1 ≡ 4)
    × (byte_of 67109890 0 ≡ 2)
    × (signed_word 4294967291 ≡ negsuc 4)
    × (signed_word 2147483648 ≡ negsuc 2147483647)
    × (signed_word 2147483647 ≡ pos 2147483647)

pub word-cases : WordCases
word-cases = (refl, refl, refl, refl, refl, refl, refl, refl)
