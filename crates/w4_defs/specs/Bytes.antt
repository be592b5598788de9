-- Bytes and numbers in the page, the numbers little-endian: the byte at the address is the lowest (Core
-- Specification, section 4.3.1, storage).
use Rattle.std.specs.Prelude.{◌≡◌, ℕ, zero, suc, ◌+◌, ◌*◌, ◌/◌, ◌%◌, ◌^◌, ◌<◌, ◌≤◌, ◌⊎◌, List, ◌++◌, length, take, drop, slice_index, slice_set}

-- the bytes with these in place of so many from this address on
abbrev pub replaced : List ℕ → ℕ → ℕ → List ℕ → List ℕ
replaced bytes at count new = take at bytes ++ new ++ drop (at + count) bytes

-- the bytes with these from this address on
abbrev pub put_bytes : List ℕ → ℕ → List ℕ → List ℕ
put_bytes bytes at new = replaced bytes at (length new) new

-- the number in so many bytes from this address on
abbrev pub number_at : List ℕ → ℕ → ℕ → ℕ
number_at bytes at zero = 0
number_at bytes at (suc count) = slice_index bytes at + 256 * number_at bytes (at + 1) count

-- the bytes with the lowest so many bytes of the number from this address on
abbrev pub put_number : List ℕ → ℕ → ℕ → ℕ → List ℕ
put_number bytes at zero number = bytes
put_number bytes at (suc count) number =
    put_number (slice_set bytes at (number % 256)) (at + 1) count (number / 256)

-- putting a number keeps how many bytes there are, and each byte outside those that it names
abbrev pub PutKeepsLength : Type 0
PutKeepsLength =
    (bytes : List ℕ) (at count number : ℕ) → length (put_number bytes at count number) ≡ length bytes

abbrev pub PutKeepsOthers : Type 0
PutKeepsOthers = (bytes : List ℕ) (at count number i : ℕ) → (i < at) ⊎ (at + count ≤ i)
    → slice_index (put_number bytes at count number) i ≡ slice_index bytes i

-- and what is found there afterwards is the number's lowest bytes
abbrev pub PutIsFound : Type 0
PutIsFound = (bytes : List ℕ) (at count number : ℕ) → at + count ≤ length bytes
    → number_at (put_number bytes at count number) at count ≡ number % 256 ^ count
