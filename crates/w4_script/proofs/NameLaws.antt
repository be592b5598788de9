-- Lists of names: their first line, which is empty or not, the names that are read one after another, and the
-- worked cases.
use Rattle.std.proofs.Common.{◌≡◌, ◌≤◌, ◌<◌, ℕ, ◌+◌, ltb, true, false, Bool, List, [], ◌∷◌, ◌++◌, length, map}
use Rattle.std.proofs.Common.{codes, string_bytes, String, Global, Some, None, Result, Ok, Err, refl, sym, ap}
use Rattle.std.proofs.Common.{◌∙◌}
use Rattle.std.specs.Io.BufRead.{strip_last}
use Rattle.std.specs.Str.{IsUtf8, is_utf8}
use Rattle.std.proofs.lemmas.Bool.{le-leb, lt-ltb}
use Rattle.std.proofs.lemmas.List.{nil_from_length, append-nil, map-append, length-append}
use Rattle.std.proofs.lemmas.Str.{IsUtf8-from_is_utf8, is_utf8-from_IsUtf8}
use Rattle.w4_defs.specs.Lines.{pieces}
use Rattle.w4_defs.specs.declared.status.ScriptKind.{ScriptKind}
use Rattle.w4_defs.specs.declared.status.ScriptKind.TheVariants.{BadLine}
use Rattle.w4_defs.specs.NameLists.{NameLine, NameListCases, name_after, name_lines, name_lines_from}
use Rattle.w4_defs.specs.NameLists.{names_after, names_of}
use Rattle.w4_script.proofs.OrderFileLaws.{with_orders, regroup_orders}

pub named_before : (number : ℕ) (bytes line rest name : List ℕ)
    → pieces 10 bytes ≡ line ∷ pieces 10 rest → name ≡ strip_last 13 line → 0 < length name
    → name_lines_from number (pieces 10 bytes)
    ≡ record { number = number; name = name } ∷ name_lines_from (number + 1) (pieces 10 rest)
unfolding name_lines_from
named_before number bytes line rest name first same some =
    let shows : ltb 0 (length (strip_last 13 line)) ≡ true = rw (← same) (lt-ltb 0 (length name) some) in
    rw (first, shows, same) refl

pub empty_before : (number : ℕ) (bytes line rest name : List ℕ)
    → pieces 10 bytes ≡ line ∷ pieces 10 rest → name ≡ strip_last 13 line → length name ≡ 0
    → name_lines_from number (pieces 10 bytes) ≡ name_lines_from (number + 1) (pieces 10 rest)
unfolding name_lines_from
empty_before number bytes line rest name first same empty =
    let none : length (strip_last 13 line) ≡ 0 = rw (← same) empty in rw (first, none) refl

pub no_name_lines : (number : ℕ) (bytes : List ℕ) → length bytes ≡ 0
    → name_lines_from number (pieces 10 bytes) ≡ []
unfolding name_lines_from
no_name_lines number bytes empty = rw (nil_from_length bytes empty) refl

not_true : (found : Bool) → (found ≡ true → ⊥) → found ≡ false
not_true true wrong = absurd (wrong refl)
not_true false wrong = refl

pub isnt_utf8 : (bytes : List ℕ) → (IsUtf8 bytes → ⊥) → is_utf8 bytes ≡ false
isnt_utf8 bytes wrong = not_true (is_utf8 bytes) (λ e. wrong (IsUtf8-from_is_utf8 bytes e))

pub is_a_name : (count : ℕ) (line name : List ℕ) → count < 256 → length line ≤ 255 → IsUtf8 line → name ≡ line
    → Some name ≡ name_after count line
is_a_name count line name few short is same =
    rw (lt-ltb count 256 few, le-leb (length line) 255 short, is_utf8-from_IsUtf8 line is, same) refl

pub isnt_a_name : (count : ℕ) (line : List ℕ) → count < 256 → length line ≤ 255 → (IsUtf8 line → ⊥)
    → None ≡ name_after count line
isnt_a_name count line few short wrong =
    rw (lt-ltb count 256 few, le-leb (length line) 255 short, isnt_utf8 line wrong) refl

-- one more line, which is a name
pub one_name : (count : ℕ) (before : List (List ℕ)) (all left : List NameLine) (line : NameLine)
    (name : List ℕ) (whole : Result (List (List ℕ)) ScriptKind)
    → all ≡ line ∷ left → name_after count line.name ≡ Some name
    → with_orders before (names_after count all) ≡ whole
    → with_orders (before ++ name ∷ []) (names_after (count + 1) left) ≡ whole
unfolding names_after
one_name count before all left line name whole first read so_far =
    let one : with_orders before (names_after count all)
    ≡ with_orders (before ++ name ∷ []) (names_after (count + 1) left)
    = rw (first, read) (regroup_orders before line.number name (names_after (count + 1) left)) in
    sym one ∙ so_far

-- and its name is put after those before
pub one_more_name : (before : List (String Global)) (owned : String Global) (name : List ℕ)
    (all left : List NameLine) (line : NameLine) (whole : Result (List (List ℕ)) ScriptKind)
    → string_bytes owned ≡ name → all ≡ line ∷ left → name_after (length before) line.name ≡ Some name
    → with_orders (map string_bytes before) (names_after (length before) all) ≡ whole
    → with_orders (map string_bytes (before ++ owned ∷ []))
    (names_after (length (before ++ owned ∷ [])) left) ≡ whole
one_more_name before owned name all left line whole same first read so_far =
    rw (map-append string_bytes before (owned ∷ []), length-append before (owned ∷ []), same)
    (one_name (length before) (map string_bytes before) all left line name whole first read so_far)

-- a bad line
pub bad_name : (count : ℕ) (before : List (List ℕ)) (all left : List NameLine) (line : NameLine)
    (whole : Result (List (List ℕ)) ScriptKind)
    → all ≡ line ∷ left → name_after count line.name ≡ None
    → with_orders before (names_after count all) ≡ whole → whole ≡ Err (BadLine line.number)
unfolding names_after
bad_name count before all left line whole first bad so_far =
    let one : with_orders before (names_after count all) ≡ Err (BadLine line.number) = rw (first, bad) refl in
    sym so_far ∙ one

-- no line is left
pub no_name : (count : ℕ) (before : List (List ℕ)) (all : List NameLine)
    (whole : Result (List (List ℕ)) ScriptKind)
    → all ≡ [] → with_orders before (names_after count all) ≡ whole → whole ≡ Ok before
unfolding names_after
no_name count before all whole none so_far =
    let one : with_orders before (names_after count all) ≡ Ok before =
    rw none (ap (λ names. Ok names) (append-nil before)) in
    sym so_far ∙ one

-- a list that isn't too long
pub short_list : (bytes : List ℕ) → length bytes ≤ 65536 → names_of bytes ≡ names_after 0 (name_lines bytes)
unfolding names_of
short_list bytes short = rw (le-leb (length bytes) 65536 short) refl

pub name-list-cases : NameListCases
unfolding name_lines_from names_after names_of lib.Utf8.encode
name-list-cases =
    let a : is_utf8 (codes "a") ≡ true = is_utf8-from_IsUtf8 (codes "a") (codes "a", (refl, refl)) in
    let b : is_utf8 (codes " b #") ≡ true = is_utf8-from_IsUtf8 (codes " b #") (codes " b #", (refl, refl)) in
    (rw (a, b) refl, refl, refl, refl, rw a refl, refl)
