-- Listed files that are read one after another.
use Rattle.std.proofs.Common.{◌≡◌, ℕ, inl, inr, ◌+◌, ◌<◌, ◌≤◌, List, [], ◌∷◌, ◌++◌, length, map, string_bytes}
use Rattle.std.proofs.Common.{String, Global, drop, get_or, subst, Result, Ok, Err, refl, sym, ap, ◌∙◌}
use Rattle.std.proofs.Common.{add-one, drop-cons, append_assoc}
use Rattle.std.specs.Option.{ForSome}
use Rattle.std.proofs.Math.ListN.{drop_of_length-le}
use Rattle.std.proofs.lemmas.List.{append-nil, get_or-map, length-map}
use Rattle.w4_defs.specs.World.{World, LeavesReading}
use Rattle.w4_house.proofs.WorldLaws.{rises_later}
use Rattle.w4_defs.specs.declared.status.Refusal.{Refusal}
use Rattle.w4_defs.specs.Endings.{Manner, ReadFailed, InputFailed, WriteFailed, MemoryRefused, Refused}
use Rattle.w4_defs.specs.Output.{◌>>=◌, reading}
use Rattle.w4_defs.specs.ToolOutputs.{listed_files}
use Rattle.w4_commands.specs.Load.{ResultsIn, Stops}

-- what was read before, and what the files that are left come to
abbrev pub after_files : List (List ℕ) → Result (List (List ℕ)) Refusal → Result (List (List ℕ)) Refusal
after_files before (Ok more) = Ok (before ++ more)
after_files before (Err status) = Err status

-- so the names that are left come to what all of them do
abbrev pub StillOwes : World → List (List ℕ) → List (List ℕ) → List (List ℕ) → Type 0
StillOwes old before left all =
    ForSome old.files (λ files. listed_files all files ≡ after_files before (listed_files left files))

regroup_files : (before : List (List ℕ)) (bytes : List ℕ) (more : Result (List (List ℕ)) Refusal)
    → after_files before (more >>= λ others. Ok (bytes ∷ others)) ≡ after_files (before ++ bytes ∷ []) more
regroup_files before bytes (Ok more) = ap (λ files. Ok files) (sym (append_assoc before (bytes ∷ []) more))
regroup_files before bytes (Err status) = refl

-- one more file is read
pub owes_fewer : (old now : World) (before : List (List ℕ)) (bytes : List ℕ) (all : List (List ℕ)) (i : ℕ)
    → i < length all → LeavesReading old now
    → ForSome now.files (λ files. reading files (get_or all i []) 361072 ≡ Ok bytes)
    → StillOwes old before (drop i all) all
    → StillOwes old (before ++ bytes ∷ []) (drop (i + 1) all) all
unfolding listed_files
owes_fewer old now before bytes all i lt leaves read owed = λ files told.
    let first : drop i all ≡ get_or all i [] ∷ drop (i + 1) all = rw (add-one i) (drop-cons all i [] lt) in
    let one : after_files before (listed_files (drop i all) files)
    ≡ after_files (before ++ bytes ∷ []) (listed_files (drop (i + 1) all) files)
    = rw (first, read files (leaves.files ∙ told))
    (regroup_files before bytes (listed_files (drop (i + 1) all) files)) in
    owed files told ∙ one

-- all are read
pub owes_no_file : (old : World) (before : List (List ℕ)) (all : List (List ℕ)) (i : ℕ)
    → length all ≤ i → StillOwes old before (drop i all) all
    → ForSome old.files (λ files. listed_files all files ≡ Ok before)
unfolding listed_files
owes_no_file old before all i le owed = λ files told.
    let none : after_files before (listed_files (drop i all) files) ≡ Ok before =
    rw (drop_of_length-le all le) (ap (λ files. Ok files) (append-nil before)) in
    owed files told ∙ none

-- a file isn't read
pub owes_stops : (old now after : World) (why : Manner) (before : List (List ℕ)) (all : List (List ℕ)) (i : ℕ)
    → i < length all → LeavesReading old now → StillOwes old before (drop i all) all
    → Stops now after why (ResultsIn (λ files. reading files (get_or all i []) 361072))
    → Stops old after why (ResultsIn (λ files. listed_files all files))
unfolding listed_files
owes_stops old now after InputFailed before all i lt leaves owed h = h
owes_stops old now after ReadFailed before all i lt leaves owed (inl rise) =
    inl (rises_later old.read_faults now.read_faults after.read_faults leaves.later rise)
owes_stops old now after ReadFailed before all i lt leaves owed (inr (files, told, e)) =
    let first : drop i all ≡ get_or all i [] ∷ drop (i + 1) all = rw (add-one i) (drop-cons all i [] lt) in
    let before_told = sym leaves.files ∙ told in
    inr (files, before_told, owed files before_told ∙ rw (first, e) refl)
owes_stops old now after WriteFailed before all i lt leaves owed h = h
owes_stops old now after MemoryRefused before all i lt leaves owed h = tt
owes_stops old now after (Refused refusal) before all i lt leaves owed h = λ files told.
    let first : drop i all ≡ get_or all i [] ∷ drop (i + 1) all = rw (add-one i) (drop-cons all i [] lt) in
    owed files told ∙ rw (first, h files (leaves.files ∙ told)) refl

-- ---- names

pub within_all : (names : List (String Global)) (i : ℕ) → i < length names
    → i < length (map string_bytes names)
within_all names i lt = subst (λ n. i < n) (sym (length-map names string_bytes)) lt

pub past_all_names : (names : List (String Global)) (i : ℕ) → length names ≤ i
    → length (map string_bytes names) ≤ i
past_all_names names i le = subst (λ n. n ≤ i) (sym (length-map names string_bytes)) le

pub named_item : (names : List (String Global)) (i : ℕ) (item : String Global) (name : List ℕ) → i < length
    names
    → item ≡ get_or names i item → name ≡ string_bytes item → get_or (map string_bytes names) i [] ≡ name
named_item names i item name lt is same =
    get_or-map string_bytes names i item [] lt ∙ ap string_bytes (sym is) ∙ sym same
