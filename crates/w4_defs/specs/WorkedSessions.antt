-- Worked cases of editing sessions, by computation.
use Rattle.std.specs.Prelude.{◌≡◌, ℕ, zero, suc, ◌+◌, Bool, true, false, map, length, List, [], ◌∷◌, replicate, Some, None, Result, Ok, Err, pos, refl}
use Rattle.std.specs.List.{range_with_len}
use Rattle.w4_defs.specs.declared.console.Input.{Input}
use Rattle.w4_defs.specs.declared.console.Halt.TheVariants.{Running}
use Rattle.w4_defs.specs.declared.editing.EditRefusal.{EditRefusal}
use Rattle.w4_defs.specs.declared.editing.EditRefusal.TheVariants.{NoFrame, FullRecording, NothingToUndo, NothingToRedo, Kept, NotKept, FullSnapshots}
use Rattle.w4_defs.specs.State.{State}
use Rattle.w4_defs.specs.Tones.{silent}
use Rattle.w4_defs.specs.Session.{Session, places_alone, kept_after_set, kept_after_insert, kept_after_delete, new_session, insert_refusal, set_input, insert_input, delete_input, undo, redo, keep, drop_kept, keep_every, multiples, with_list}
use Rattle.w4_defs.specs.SameState.{same_state}
use Rattle.w4_defs.specs.KeptList.{Entry, kept_entries, without_entry, relinked_at, replaced_at, last_up_to, doubtful, show_frames, settle_frames}

-- an input with these pad bits, and a session of so many inputs without any
abbrev pad : ℕ → Input
pad bits =
    record { pads = bits ∷ 0 ∷ 0 ∷ 0 ∷ []; mouse_x = pos 0; mouse_y = pos 0; buttons = 0; reset = false }

abbrev still : ℕ → Session ℕ
still inputs = new_session (replicate inputs (pad 0)) 0

-- one order after another, up to a refusal
infixl 10 ◌then◌
abbrev ◌then◌ : {A : Type 0} → Result A EditRefusal → (A → Result A EditRefusal) → Result A EditRefusal
(Ok session) then go = go session
(Err refusal) then go = Err refusal

-- the places that are kept, and the first pads of the inputs
abbrev kept_places : Result (Session ℕ) EditRefusal → List ℕ
kept_places (Ok session) = session.current.kept
kept_places (Err refusal) = []

abbrev pads_of : Result (Session ℕ) EditRefusal → List (List ℕ)
pads_of (Ok session) = map (λ input. input.pads) session.current.inputs
pads_of (Err refusal) = []

-- ten inputs: places 5 and 6 are kept, and input 5 is deleted, so that place 6 falls onto place 5
abbrev five_and_six : Result (Session ℕ) EditRefusal
five_and_six = keep places_alone 5 (still 10) then keep places_alone 6

abbrev deleted : Result (Session ℕ) EditRefusal
deleted = five_and_six then delete_input places_alone 5

abbrev pub DeletedCase : Type 0
DeletedCase =
    (kept_places deleted ≡ 0 ∷ 5 ∷ [])
    × (kept_places (deleted then undo) ≡ 0 ∷ 5 ∷ 6 ∷ [])
    × (kept_places (deleted then undo then redo) ≡ 0 ∷ 5 ∷ [])
    × ((deleted then undo then redo then redo) ≡ Err NothingToRedo)
    × ((deleted then drop_kept places_alone 0) ≡ Err NotKept)
    × ((deleted then drop_kept places_alone 6) ≡ Err NotKept)
    × ((deleted then keep places_alone 5) ≡ Err Kept)
    × (kept_places (deleted then drop_kept places_alone 5) ≡ 0 ∷ [])

pub deleted-case : DeletedCase
deleted-case = (refl, refl, refl, refl, refl, refl, refl, refl)

-- what each edit does to the inputs
abbrev pub InputCases : Type 0
InputCases =
    let three = new_session (pad 1 ∷ pad 2 ∷ pad 3 ∷ []) 0 in
    (pads_of (set_input places_alone 1 (pad 9) three)
    ≡ pads_of (Ok (new_session (pad 1 ∷ pad 9 ∷ pad 3 ∷ []) 0)))
    × (pads_of (insert_input places_alone 1 (pad 9) three)
    ≡ pads_of (Ok (new_session (pad 1 ∷ pad 9 ∷ pad 2 ∷ pad 3 ∷ []) 0)))
    × (pads_of (insert_input places_alone 3 (pad 9) three)
    ≡ pads_of (Ok (new_session (pad 1 ∷ pad 2 ∷ pad 3 ∷ pad 9 ∷ []) 0)))
    × (pads_of (delete_input places_alone 0 three) ≡ pads_of (Ok (new_session (pad 2 ∷ pad 3 ∷ []) 0)))
    × (pads_of (delete_input places_alone 0 three then undo) ≡ pads_of (Ok three))

pub input-cases : InputCases
input-cases = (refl, refl, refl, refl, refl)

-- refusals, the first one where there are two
abbrev pub RefusalCases : Type 0
RefusalCases =
    (set_input places_alone 3 (pad 0) (still 3) ≡ Err NoFrame)
    × (insert_input places_alone 1 (pad 0) (still 0) ≡ Err NoFrame)
    × (kept_places (insert_input places_alone 0 (pad 0) (still 0)) ≡ 0 ∷ [])
    × (delete_input places_alone 0 (still 0) ≡ Err NoFrame)
    × (insert_refusal 36000 (still 36000).current ≡ Some FullRecording)
    × (insert_refusal 36001 (still 36000).current ≡ Some NoFrame)
    × (insert_refusal 35999 (still 35999).current ≡ None)
    × (undo (still 3) ≡ Err NothingToUndo)
    × (redo (still 3) ≡ Err NothingToRedo)
    × (keep places_alone 4 (still 3) ≡ Err NoFrame)
    × (keep places_alone 0 (still 3) ≡ Err Kept)
    × (drop_kept places_alone 0 (still 3) ≡ Err NotKept)
    × (drop_kept places_alone 9 (still 3) ≡ Err NotKept)

pub refusal-cases : RefusalCases
refusal-cases = (refl, refl, refl, refl, refl, refl, refl, refl, refl, refl, refl, refl, refl)

-- each multiple of `every` that isn't kept yet is kept
abbrev pub KeepEveryCases : Type 0
KeepEveryCases =
    (multiples 3 6 ≡ 0 ∷ 3 ∷ 6 ∷ [])
    × (kept_places (keep places_alone 3 (still 7) then keep_every 2) ≡ 0 ∷ 2 ∷ 3 ∷ 4 ∷ 6 ∷ [])
    × (kept_places (keep_every 9 (still 7)) ≡ 0 ∷ [])

pub keep-every-cases : KeepEveryCases
keep-every-cases = (refl, refl, refl)

-- where 1,023 places are kept, place 0 among them, one more is kept; where 1,024 are, one more is refused
abbrev filled : ℕ → Session ℕ
filled count = with_list (still 1100) (range_with_len 0 count)

abbrev pub LimitCases : Type 0
LimitCases =
    (length (kept_places (keep places_alone 1050 (filled 1023))) ≡ 1024)
    × (keep places_alone 1050 (filled 1024) ≡ Err FullSnapshots)
    × (length (kept_places (keep_every 1050 (filled 1023))) ≡ 1024)
    × (keep_every 1050 (filled 1024) ≡ Err FullSnapshots)

pub limit-cases : LimitCases
limit-cases = (refl, refl, refl, refl)

-- 33 edits: 32 of them are undone, and then made again; an edit after an undo empties the redo history
abbrev edits : ℕ → Result (Session ℕ) EditRefusal → Result (Session ℕ) EditRefusal
edits zero session = session
edits (suc n) session = edits n session then set_input places_alone 0 (pad (n + 1))

abbrev undos : ℕ → Result (Session ℕ) EditRefusal → Result (Session ℕ) EditRefusal
undos zero session = session
undos (suc n) session = undos n session then undo

abbrev redos : ℕ → Result (Session ℕ) EditRefusal → Result (Session ℕ) EditRefusal
redos zero session = session
redos (suc n) session = redos n session then redo

abbrev pub HistoryCase : Type 0
HistoryCase =
    let after_edits = edits 33 (Ok (still 1)) in
    (pads_of (undos 32 after_edits) ≡ pads_of (Ok (new_session (pad 1 ∷ []) 0)))
    × (undos 33 after_edits ≡ Err NothingToUndo)
    × (redos 32 (undos 32 after_edits) ≡ after_edits)
    × (redos 33 (undos 32 after_edits) ≡ Err NothingToRedo)
    × ((undos 2 after_edits then set_input places_alone 0 (pad 7) then redo) ≡ Err NothingToRedo)

pub history-case : HistoryCase
history-case = (refl, refl, refl, refl, refl)

-- ---- entries: states are told apart by their disks

abbrev state : ℕ → State
state n = record { page = []; globals = []; channels = silent; disk = n ∷ []; halt = Running }

abbrev entry : ℕ → ℕ → Bool → Entry
entry place n linked = record { place = place; state = state n; linked = linked }

-- set unlinks the first entry above its input; insert and delete also move those above, and of two on one
-- place the earlier stays
abbrev pub EntryCases : Type 0
EntryCases =
    let kept = entry 0 0 true ∷ entry 5 1 true ∷ entry 6 2 true ∷ entry 9 3 true ∷ [] in
    (kept_after_set kept_entries 4 kept
    ≡ entry 0 0 true ∷ entry 5 1 false ∷ entry 6 2 true ∷ entry 9 3 true ∷ [])
    × (kept_after_set kept_entries 5 kept
    ≡ entry 0 0 true ∷ entry 5 1 true ∷ entry 6 2 false ∷ entry 9 3 true ∷ [])
    × (kept_after_set kept_entries 9 kept ≡ kept)
    × (kept_after_insert kept_entries 5 kept
    ≡ entry 0 0 true ∷ entry 5 1 true ∷ entry 7 2 false ∷ entry 10 3 true ∷ [])
    × (kept_after_delete kept_entries 5 kept ≡ entry 0 0 true ∷ entry 5 1 true ∷ entry 8 3 false ∷ [])
    × (kept_after_delete kept_entries 4 kept
    ≡ entry 0 0 true ∷ entry 4 1 false ∷ entry 5 2 true ∷ entry 8 3 true ∷ [])
    × (kept_after_delete kept_entries 6 kept
    ≡ entry 0 0 true ∷ entry 5 1 true ∷ entry 6 2 true ∷ entry 8 3 false ∷ [])

pub entry-cases : EntryCases
entry-cases = (refl, refl, refl, refl, refl, refl, refl)

-- after a drop the next entry is linked where both were
abbrev pub DropCases : Type 0
DropCases =
    let kept = entry 0 0 true ∷ entry 5 1 true ∷ entry 6 2 true ∷ entry 9 3 false ∷ [] in
    (without_entry 5 kept ≡ entry 0 0 true ∷ entry 6 2 true ∷ entry 9 3 false ∷ [])
    × (without_entry 6 kept ≡ entry 0 0 true ∷ entry 5 1 true ∷ entry 9 3 false ∷ [])
    × (without_entry 9 kept ≡ entry 0 0 true ∷ entry 5 1 true ∷ entry 6 2 true ∷ [])
    × (without_entry 5 (entry 0 0 true ∷ entry 5 1 false ∷ entry 6 2 true ∷ [])
    ≡ entry 0 0 true ∷ entry 6 2 false ∷ [])

pub drop-cases : DropCases
drop-cases = (refl, refl, refl, refl)

-- a new state unlinks the next entry; a state that was found again doesn't
abbrev pub ChangeCases : Type 0
ChangeCases =
    let kept = entry 0 0 true ∷ entry 1 1 false ∷ entry 2 2 true ∷ [] in
    (replaced_at 1 (state 7) kept ≡ entry 0 0 true ∷ entry 1 7 true ∷ entry 2 2 false ∷ [])
    × (replaced_at 2 (state 7) kept ≡ entry 0 0 true ∷ entry 1 1 false ∷ entry 2 7 true ∷ [])
    × (relinked_at 1 kept ≡ entry 0 0 true ∷ entry 1 1 true ∷ entry 2 2 true ∷ [])
    × (relinked_at 2 (replaced_at 1 (state 1) kept) ≡ entry 0 0 true ∷ entry 1 1 true ∷ entry 2 2 true ∷ [])

pub change-cases : ChangeCases
change-cases = (refl, refl, refl, refl)

-- places 60 and 120 are kept, and an edit has unlinked place 60: where the same state is found there, the
-- segment after it isn't run; where another one is found, it is
abbrev pub ShowCases : Type 0
ShowCases =
    let edited = entry 0 0 true ∷ entry 60 1 false ∷ entry 120 2 true ∷ [] in
    let found = entry 0 0 true ∷ entry 60 1 true ∷ entry 120 2 true ∷ [] in
    let other = entry 0 0 true ∷ entry 60 5 true ∷ entry 120 6 true ∷ [] in
    (last_up_to 119 edited ≡ 1)
    × (last_up_to 120 edited ≡ 2)
    × (show_frames 120 edited found ≡ 60)
    × (show_frames 120 edited other ≡ 120)
    × (show_frames 70 edited found ≡ 70)
    × (show_frames 70 found found ≡ 10)
    × (show_frames 121 found found ≡ 1)
    × (settle_frames found found ≡ 0)
    × (settle_frames edited other ≡ 120)

pub show-cases : ShowCases
unfolding same_state doubtful
show-cases = (refl, refl, refl, refl, refl, refl, refl, refl, refl)
