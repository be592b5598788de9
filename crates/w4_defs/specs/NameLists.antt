-- Lists of names (project rule): at most 65,536 bytes of lines. Byte 10 ends a line, and the last line may
-- lack it; one byte 13 at the end of a line isn't part of it, and isn't counted. An empty line is skipped but
-- counted; every other line is the name of a file as it stands: at most 255 bytes of UTF-8. There are at most
-- 256 names.
use Rattle.std.specs.Prelude.{◌≡◌, ℕ, ◌+◌, ◌&&◌, nat_lt, nat_le, List, [], ◌∷◌, ◌++◌, length, map, replicate, codes, Option, Some, None, Result, Ok, Err, if◌then◌else◌}
use Rattle.std.specs.Str.{is_utf8}
use Rattle.std.specs.Io.BufRead.{strip_last}
use Rattle.w4_defs.specs.Lines.{pieces}
use Rattle.w4_defs.specs.OrderFile.{with_order}
use Rattle.w4_defs.specs.declared.status.ScriptKind.{ScriptKind}
use Rattle.w4_defs.specs.declared.status.ScriptKind.TheVariants.{TooLong, BadLine}
use Rattle.w4_defs.specs.Limits.{name_list_limit}

-- a line that isn't empty
pub record NameLine : Type 0 where
  pub number : ℕ
  pub name : List ℕ

-- the lines that aren't empty, of these lines, which are counted from this number
unfoldable pub name_lines_from : ℕ → List (List ℕ) → List NameLine
name_lines_from number [] = []
name_lines_from number (line ∷ lines) =
    if nat_lt 0 (length (strip_last 13 line))
    then record { number = number; name = strip_last 13 line } ∷ name_lines_from (number + 1) lines
    else name_lines_from (number + 1) lines

abbrev pub name_lines : List ℕ → List NameLine
name_lines bytes = name_lines_from 1 (pieces 10 bytes)

-- the name that a line is, after so many others
abbrev pub name_after : ℕ → List ℕ → Option (List ℕ)
name_after count line =
    if nat_lt count 256 && nat_le (length line) 255 && is_utf8 line then Some line else None

-- the names of these lines, after so many others, or the first line that is none
unfoldable pub names_after : ℕ → List NameLine → Result (List (List ℕ)) ScriptKind
names_after count [] = Ok []
names_after count (line ∷ lines) =
    with_order line.number (name_after count line.name) (names_after (count + 1) lines)

-- the names of a list
unfoldable pub names_of : List ℕ → Result (List (List ℕ)) ScriptKind
names_of bytes =
    if nat_le (length bytes) name_list_limit then names_after 0 (name_lines bytes) else Err TooLong

-- Worked cases: a list with an empty line, a byte 13 and no byte 10 at its end; the numbers of lines that are
-- left where others are empty; no name at all; 256 bytes after an empty line; the 256th name, and the 257th.
abbrev pub NameListCases : Type 0
NameListCases =
    (names_of (codes "a" ++ 13 ∷ 10 ∷ 13 ∷ 10 ∷ 10 ∷ codes " b #") ≡ Ok (codes "a" ∷ codes " b #" ∷ []))
    × (map (λ (line : NameLine). line.number) (name_lines (codes "a" ++ 10 ∷ 13 ∷ 10 ∷ 10 ∷ codes "b"))
    ≡ 1 ∷ 4 ∷ [])
    × (names_of [] ≡ Ok [])
    × (names_of (10 ∷ replicate 256 97 ++ 10 ∷ codes "a") ≡ Err (BadLine 2))
    × (name_after 255 (codes "a") ≡ Some (codes "a"))
    × (name_after 256 (codes "a") ≡ None)
