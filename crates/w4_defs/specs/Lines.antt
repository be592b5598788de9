-- Lines, words and numbers of a text (project rule), in which scripts, queries and logs are written; lists
-- of names have lines alone. Byte 10 ends a line, and the last line may lack it; one byte 13 at the end of a
-- line isn't part of it. Words are parted by one or more spaces, which may also stand at either end of a
-- line. A line without words, or whose first word begins with `#`, is skipped; lines are counted from 1,
-- skipped ones too.
use Rattle.std.specs.Prelude.{◌≡◌, ℕ, ◌+◌, ◌-◌, ◌*◌, ◌^◌, ◌≤◌, ◌==◌, ◌&&◌, ◌≢◌, Bool, true, List, [], ◌∷◌, ◌++◌, length, slice_index, sum, codes, Option, Some, None, nat_le, nat_lt, if◌then◌else◌, refl, ℤ, pos, neg_ℤ, map}
use Rattle.std.specs.List.{filter, range_with_len, AllByRecursion}
use Rattle.std.specs.Fmt.{decimal}
use Rattle.std.specs.Io.BufRead.{strip_last}
use Rattle.std.specs.Str.{all_ascii_digits}
use Rattle.w4_defs.specs.Reading.{◌>>=◌}

-- ---- lines and words

-- a byte at the front of the first piece
abbrev pub onto_first : ℕ → List (List ℕ) → List (List ℕ)
onto_first b [] = (b ∷ []) ∷ []
onto_first b (piece ∷ pieces) = (b ∷ piece) ∷ pieces

-- the pieces that a byte ends; the last may lack it
abbrev pub pieces : ℕ → List ℕ → List (List ℕ)
pieces mark [] = []
pieces mark (b ∷ bytes) = if b == mark then [] ∷ pieces mark bytes else onto_first b (pieces mark bytes)

abbrev pub words_of : List ℕ → List (List ℕ)
words_of line = filter (λ word. nat_lt 0 (length word)) (pieces 32 (strip_last 13 line))

-- a line that isn't skipped
pub record Line : Type 0 where
  pub number : ℕ
  pub words : List (List ℕ)

abbrev pub is_skipped : List (List ℕ) → Bool
is_skipped [] = true
is_skipped (word ∷ words) = slice_index word 0 == 35

-- the lines that aren't skipped, of these lines, which are counted from this number
unfoldable pub lines_from : ℕ → List (List ℕ) → List Line
lines_from number [] = []
lines_from number (line ∷ lines) = if is_skipped (words_of line) then lines_from (number + 1) lines
    else record { number = number; words = words_of line } ∷ lines_from (number + 1) lines

abbrev pub lines_of : List ℕ → List Line
lines_of bytes = lines_from 1 (pieces 10 bytes)

-- ---- numbers

-- a value that a limit lets through
abbrev pub at_most : ℕ → ℕ → Option ℕ
at_most limit n = if nat_le n limit then Some n else None

-- the value of decimal digits: the sum of all, each times 10 to the power of how many follow it
unfoldable pub decimal_value : List ℕ → ℕ
decimal_value digits = sum (map (λ i. (slice_index digits i - 48) * 10 ^ (length digits - 1 - i))
    (range_with_len 0 (length digits)))

-- a number has 1 to 10 bytes, all of them decimal digits, leading zeros too, and is at most 4,294,967,295
unfoldable pub number_of : List ℕ → Option ℕ
number_of word =
    if nat_le 1 (length word) && nat_le (length word) 10 && all_ascii_digits word
    then at_most 4294967295 (decimal_value word)
    else None

-- a number from 0 to 255
unfoldable pub decimal_byte : List ℕ → Option ℕ
decimal_byte word = number_of word >>= at_most 255

-- a number from -32768 to 32767, a `-` directly before its digits, of 0 too
unfoldable pub coordinate_of : List ℕ → Option ℤ
coordinate_of [] = None
coordinate_of (first ∷ rest) = if first == 45
    then (number_of rest >>= at_most 32768 >>= λ n. Some (neg_ℤ (pos n)))
    else (number_of (first ∷ rest) >>= at_most 32767 >>= λ n. Some (pos n))

-- ---- laws

-- the first piece ends before the first mark, and a piece that no mark ends is the last
abbrev pub FirstPiece : Type 0
FirstPiece = (mark : ℕ) (piece rest : List ℕ) → AllByRecursion (λ b. b ≢ mark) piece
    → pieces mark (piece ++ mark ∷ rest) ≡ piece ∷ pieces mark rest

abbrev pub LastPiece : Type 0
LastPiece = (mark b : ℕ) (piece : List ℕ) → AllByRecursion (λ b. b ≢ mark) (b ∷ piece)
    → pieces mark (b ∷ piece) ≡ (b ∷ piece) ∷ []

-- the lines of a text are those of its first pieces, and then those of the others, counted on
abbrev pub LinesInParts : Type 0
LinesInParts = (number : ℕ) (front rest : List (List ℕ)) →
    lines_from number (front ++ rest) ≡ lines_from number front ++ lines_from (number + length front) rest

-- the decimal text of a number is read as that number
abbrev pub DecimalIsRead : Type 0
DecimalIsRead = (n : ℕ) → n ≤ 4294967295 → number_of (decimal n) ≡ Some n

-- ---- worked cases

abbrev pub LineCases : Type 0
LineCases =
    (lines_of [] ≡ [])
    × (lines_of (10 ∷ 13 ∷ 10 ∷ codes "  " ++ 10 ∷ codes "# show 1" ++ 10 ∷ codes " #" ++ 13 ∷ 10 ∷ []) ≡ [])
    × (lines_of (10 ∷ codes " show  01 " ++ 13 ∷ 10 ∷ codes "undo" ++ 13 ∷ [])
    ≡ record { number = 2; words = codes "show" ∷ codes "01" ∷ [] }
    ∷ record { number = 3; words = codes "undo" ∷ [] } ∷ [])
    -- one byte 13 alone is dropped, at the end alone; any other byte is part of a word
    × (lines_of (codes "a" ++ 13 ∷ 13 ∷ 10 ∷ codes "b" ++ 13 ∷ codes " c" ++ 9 ∷ 0 ∷ [])
    ≡ record { number = 1; words = (codes "a" ++ 13 ∷ []) ∷ [] }
    ∷ record { number = 2; words = (codes "b" ++ 13 ∷ []) ∷ (codes "c" ++ 9 ∷ 0 ∷ []) ∷ [] } ∷ [])
    × (map (λ (line : Line). line.number) (lines_of (codes "show 0" ++ 10 ∷ codes "film 3 2 1" ++ 10 ∷ []))
    ≡ 1 ∷ 2 ∷ [])

pub line-cases : LineCases
unfolding lines_from
line-cases = (refl, refl, refl, refl, refl)

abbrev pub DecimalCases : Type 0
DecimalCases =
    (decimal_value (codes "4095") ≡ 4 * 1000 + 0 * 100 + 9 * 10 + 5)
    × (number_of (codes "4294967295") ≡ Some 4294967295)
    × (number_of (codes "4294967296") ≡ None)
    × (number_of (codes "0000000012") ≡ Some 12)
    × (number_of (codes "00000000012") ≡ None)
    × (number_of [] ≡ None)
    × (number_of (codes "-1") ≡ None)
    × (number_of (codes "1a") ≡ None)
    × (decimal_byte (codes "255") ≡ Some 255)
    × (decimal_byte (codes "256") ≡ None)
    × (coordinate_of (codes "-32768") ≡ Some (neg_ℤ (pos 32768)))
    × (coordinate_of (codes "-32769") ≡ None)
    × (coordinate_of (codes "32767") ≡ Some (pos 32767))
    × (coordinate_of (codes "32768") ≡ None)
    × (coordinate_of (codes "-0") ≡ Some (pos 0))
    × (coordinate_of (codes "-00005") ≡ Some (neg_ℤ (pos 5)))
    × (coordinate_of (codes "-") ≡ None)
    × (coordinate_of (codes "--1") ≡ None)
    × (coordinate_of (codes "+1") ≡ None)

pub decimal-cases : DecimalCases
unfolding decimal_value number_of decimal_byte coordinate_of
decimal-cases = (
  refl,
  refl,
  refl,
  refl,
  refl,
  refl,
  refl,
  refl,
  refl,
  refl,
  refl,
  refl,
  refl,
  refl,
  refl,
  refl,
  refl,
  refl,
  refl,
)
