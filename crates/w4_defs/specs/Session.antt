-- Editing sessions (project rule; input, frame, undo and redo are the words of TAS editors). Place P is the
-- state after the first P inputs, so that a recording of n inputs has the places 0 to n, and input K leads
-- from place K to place K + 1. Some places are kept, place 0 always. An edit makes a new draft of inputs and
-- kept places. The draft before it goes to the undo history, which holds 32 and loses its oldest where it
-- would hold more; the redo history is emptied. Undo and redo bring back a whole draft, kept places too.
-- Keeping and dropping places aren't edits: they change the kept places of the current draft alone.
use Rattle.std.specs.Prelude.{◌≡◌, ◌≢◌, ℕ, ◌+◌, ◌-◌, ◌≤◌, ◌<◌, ◌==◌, ◌%◌, ◌&&◌, ◌||◌, Bool, false, not, List, [], ◌∷◌, ◌++◌, map, length, take, drop, insert, remove, slice_get, slice_set, Option, Some, None, IfSome, option_map, Result, Ok, Err, nat_le, nat_lt, if◌then◌else◌}
use Rattle.std.specs.List.{filter, list_any, range_with_len}
use Rattle.w4_defs.specs.declared.console.Input.{Input}
use Rattle.w4_defs.specs.declared.editing.EditRefusal.{EditRefusal}
use Rattle.w4_defs.specs.declared.editing.EditRefusal.TheVariants.{NoFrame, FullRecording, NothingToUndo, NothingToRedo, Kept, NotKept, FullSnapshots}
use Rattle.w4_defs.specs.Limits.{frame_limit, kept_limit}

-- ---- kept things

-- A kind of kept things. Each stands at a place. A link ties a thing to the one before it in the kept list.
pub record Kind (A : Type 0) : Type 0 where
  -- its place
  pub place : A → ℕ
  -- the same thing at this place
  pub at : ℕ → A → A
  -- the same thing without its link
  pub unlinked : A → A
  -- what stands for the second thing once the first, just before it, is dropped
  pub after_drop : A → A → A

-- places alone, without links
abbrev pub places_alone : Kind ℕ
places_alone =
    record { place = λ p. p; at = λ p old. p; unlinked = λ p. p; after_drop = λ dropped next. next }

-- places that rise from above a place to at most n
abbrev pub Rise : ℕ → ℕ → List ℕ → Type 0
Rise from n [] = from ≤ n
Rise from n (p ∷ places) = (from < p) × Rise p n places

-- the kept places of a recording of n inputs: they rise from place 0, and there are at most 1,024
abbrev pub ArePlaces : ℕ → List ℕ → Type 0
ArePlaces n [] = ⊥
ArePlaces n (p ∷ places) = (p ≡ 0) × Rise 0 n places × (length places < kept_limit)

abbrev pub is_kept : {A : Type 0} → Kind A → ℕ → List A → Bool
is_kept kind p kept = list_any (λ x. kind.place x == p) kept

-- the kept list with this thing, before the first above its place
abbrev pub with_kept : {A : Type 0} → Kind A → A → List A → List A
with_kept kind x [] = x ∷ []
with_kept kind x (y ∷ kept) =
    if nat_lt (kind.place x) (kind.place y) then x ∷ y ∷ kept else y ∷ with_kept kind x kept

-- what stands after a thing that is dropped
abbrev pub next_after_drop : {A : Type 0} → Kind A → A → List A → List A
next_after_drop kind dropped [] = []
next_after_drop kind dropped (x ∷ kept) = kind.after_drop dropped x ∷ kept

-- the kept list without the thing at a place
abbrev pub without : {A : Type 0} → Kind A → ℕ → List A → List A
without kind p [] = []
without kind p (x ∷ kept) = if kind.place x == p then next_after_drop kind x kept else x ∷ without kind p kept

-- ---- what an edit of input K does to the kept list: which things stay, where they stand, which link goes

-- where places K and K + 1 are kept, both would stand on K after a delete: the later thing is dropped
abbrev pub stays_after_delete : {A : Type 0} → Kind A → ℕ → List A → A → Bool
stays_after_delete kind k kept x = not (is_kept kind k kept && kind.place x == k + 1)

-- a place above K rises by 1, or falls by 1
abbrev pub place_after_insert : ℕ → ℕ → ℕ
place_after_insert k p = if nat_lt k p then p + 1 else p

abbrev pub place_after_delete : ℕ → ℕ → ℕ
place_after_delete k p = if nat_lt k p then p - 1 else p

abbrev pub moved_up : {A : Type 0} → Kind A → ℕ → A → A
moved_up kind k x = kind.at (place_after_insert k (kind.place x)) x

abbrev pub moved_down : {A : Type 0} → Kind A → ℕ → A → A
moved_down kind k x = kind.at (place_after_delete k (kind.place x)) x

-- the first thing above place K loses its link
abbrev pub unlink_above : {A : Type 0} → Kind A → ℕ → List A → List A
unlink_above kind k [] = []
unlink_above kind k (x ∷ kept) =
    if nat_lt k (kind.place x) then kind.unlinked x ∷ kept else x ∷ unlink_above kind k kept

abbrev pub kept_after_set : {A : Type 0} → Kind A → ℕ → List A → List A
kept_after_set kind k kept = unlink_above kind k kept

abbrev pub kept_after_insert : {A : Type 0} → Kind A → ℕ → List A → List A
kept_after_insert kind k kept = map (moved_up kind k) (unlink_above kind k kept)

abbrev pub kept_after_delete : {A : Type 0} → Kind A → ℕ → List A → List A
kept_after_delete kind k kept =
    map (moved_down kind k) (unlink_above kind k (filter (stays_after_delete kind k kept) kept))

-- ---- drafts

-- the inputs of a recording and its kept list
pub record Draft (A : Type 0) : Type 0 where
  pub inputs : List Input
  pub kept : List A

abbrev pub set_draft : {A : Type 0} → Kind A → ℕ → Input → Draft A → Draft A
set_draft kind k input draft =
    record { inputs = slice_set draft.inputs k input; kept = kept_after_set kind k draft.kept }

abbrev pub insert_draft : {A : Type 0} → Kind A → ℕ → Input → Draft A → Draft A
insert_draft kind k input draft =
    record { inputs = insert draft.inputs k input; kept = kept_after_insert kind k draft.kept }

abbrev pub delete_draft : {A : Type 0} → Kind A → ℕ → Draft A → Draft A
delete_draft kind k draft =
    record { inputs = remove draft.inputs k; kept = kept_after_delete kind k draft.kept }

-- ---- sessions

-- the current draft, the undo history with the newest last, and the redo history with the next last
pub record Session (A : Type 0) : Type 0 where
  pub current : Draft A
  pub older : List (Draft A)
  pub newer : List (Draft A)

-- how a recording is opened, with what is kept at place 0
abbrev pub new_session : {A : Type 0} → List Input → A → Session A
new_session inputs first =
    record { current = record { inputs = inputs; kept = first ∷ [] }; older = []; newer = [] }

-- the last so many
abbrev pub keep_last : {A : Type 0} → ℕ → List A → List A
keep_last n xs = drop (length xs - n) xs

abbrev pub last_item : {A : Type 0} → List A → Option A
last_item xs = slice_get xs (length xs - 1)

abbrev pub without_last : {A : Type 0} → List A → List A
without_last xs = take (length xs - 1) xs

-- the session after an edit that makes this draft
abbrev pub edited : {A : Type 0} → Session A → Draft A → Session A
edited session draft =
    record { current = draft; older = keep_last 32 (session.older ++ session.current ∷ []); newer = [] }

-- the session one draft back, and one draft on
abbrev pub undone : {A : Type 0} → Session A → Option (Session A)
undone session = option_map (λ draft. record {
  current = draft;
  older = without_last session.older;
  newer = session.newer ++ session.current ∷ [];
}) (last_item session.older)

abbrev pub redone : {A : Type 0} → Session A → Option (Session A)
redone session = option_map (λ draft. record {
  current = draft;
  older = session.older ++ session.current ∷ [];
  newer = without_last session.newer;
}) (last_item session.newer)

-- the session with another kept list
abbrev pub with_list : {A : Type 0} → Session A → List A → Session A
with_list session kept = record session { current = record session.current { kept = kept } }

-- ---- refusals, in their order: an input or a place that isn't there, then a limit or what is kept

abbrev pub set_refusal : {A : Type 0} → ℕ → Draft A → Option EditRefusal
set_refusal k draft = if nat_lt k (length draft.inputs) then None else Some NoFrame

abbrev pub insert_refusal : {A : Type 0} → ℕ → Draft A → Option EditRefusal
insert_refusal k draft =
    if nat_lt (length draft.inputs) k then Some NoFrame else
    if nat_lt (length draft.inputs) frame_limit then None else
    Some FullRecording

abbrev pub delete_refusal : {A : Type 0} → ℕ → Draft A → Option EditRefusal
delete_refusal k draft = set_refusal k draft

abbrev pub place_refusal : {A : Type 0} → ℕ → Draft A → Option EditRefusal
place_refusal p draft = if nat_le p (length draft.inputs) then None else Some NoFrame

abbrev pub keep_refusal : {A : Type 0} → Kind A → ℕ → Draft A → Option EditRefusal
keep_refusal kind p draft =
    if nat_lt (length draft.inputs) p then Some NoFrame else
    if is_kept kind p draft.kept then Some Kept else
    if nat_lt (length draft.kept) kept_limit then None else
    Some FullSnapshots

abbrev pub drop_refusal : {A : Type 0} → Kind A → ℕ → Draft A → Option EditRefusal
drop_refusal kind p draft = if not (p == 0) && is_kept kind p draft.kept then None else Some NotKept

-- ---- the orders that change a session: what it is afterwards, or why they are refused

abbrev pub unless : {A : Type 0} → Option EditRefusal → A → Result A EditRefusal
unless None after = Ok after
unless (Some refusal) after = Err refusal

abbrev pub if_some : {A : Type 0} → EditRefusal → Option A → Result A EditRefusal
if_some refusal None = Err refusal
if_some refusal (Some after) = Ok after

abbrev pub set_input : {A : Type 0} → Kind A → ℕ → Input → Session A → Result (Session A) EditRefusal
set_input kind k input session =
    unless (set_refusal k session.current) (edited session (set_draft kind k input session.current))

abbrev pub insert_input : {A : Type 0} → Kind A → ℕ → Input → Session A → Result (Session A) EditRefusal
insert_input kind k input session =
    unless (insert_refusal k session.current) (edited session (insert_draft kind k input session.current))

abbrev pub delete_input : {A : Type 0} → Kind A → ℕ → Session A → Result (Session A) EditRefusal
delete_input kind k session =
    unless (delete_refusal k session.current) (edited session (delete_draft kind k session.current))

abbrev pub undo : {A : Type 0} → Session A → Result (Session A) EditRefusal
undo session = if_some NothingToUndo (undone session)

abbrev pub redo : {A : Type 0} → Session A → Result (Session A) EditRefusal
redo session = if_some NothingToRedo (redone session)

-- the thing is kept at its place
abbrev pub keep : {A : Type 0} → Kind A → A → Session A → Result (Session A) EditRefusal
keep kind x session =
    unless (keep_refusal kind (kind.place x) session.current)
    (with_list session (with_kept kind x session.current.kept))

abbrev pub drop_kept : {A : Type 0} → Kind A → ℕ → Session A → Result (Session A) EditRefusal
drop_kept kind p session =
    unless (drop_refusal kind p session.current) (with_list session (without kind p session.current.kept))

-- each multiple of `every` that isn't kept yet is kept; none where more than 1,024 places would be kept
abbrev pub multiples : ℕ → ℕ → List ℕ
multiples every last = filter (λ p. p % every == 0) (range_with_len 0 (last + 1))

abbrev pub all_kept : List ℕ → List ℕ → List ℕ
all_kept [] kept = kept
all_kept (p ∷ places) kept = all_kept places
    (if is_kept places_alone p kept then kept else with_kept places_alone p kept)

abbrev pub keep_every : ℕ → Session ℕ → Result (Session ℕ) EditRefusal
keep_every every session =
    let kept = all_kept (multiples every (length session.current.inputs)) session.current.kept in
    unless (if nat_le (length kept) kept_limit then None else Some FullSnapshots) (with_list session kept)

-- ---- laws

-- both histories together have at most 32 drafts
abbrev pub HasBoundedHistory : {A : Type 0} → Session A → Type 0
HasBoundedHistory session = length session.older + length session.newer ≤ 32

abbrev pub HistoryStaysBounded : Type 0 → Type 0
HistoryStaysBounded A = (session : Session A) (draft : Draft A) → HasBoundedHistory session
    → HasBoundedHistory (edited session draft)
    × IfSome (undone session) HasBoundedHistory
    × IfSome (redone session) HasBoundedHistory

-- an undo brings back the draft that the edit put away
abbrev pub UndoTakesBack : Type 0 → Type 0
UndoTakesBack A = (session : Session A) (draft : Draft A)
    → option_map (λ before. before.current) (undone (edited session draft)) ≡ Some session.current

-- a redo takes back an undo, and an undo a redo
abbrev pub RedoTakesBack : Type 0 → Type 0
RedoTakesBack A = (session other : Session A) → undone session ≡ Some other → redone other ≡ Some session

abbrev pub UndoTakesBackRedo : Type 0 → Type 0
UndoTakesBackRedo A = (session other : Session A) → redone session ≡ Some other → undone other ≡ Some session

-- a kind whose things stand where they are put
pub record IsPlaced {A : Type 0} (kind : Kind A) : Type 0 where
  pub at : (p : ℕ) (x : A) → kind.place (kind.at p x) ≡ p
  pub unlinked : (x : A) → kind.place (kind.unlinked x) ≡ kind.place x
  pub after_drop : (dropped next : A) → kind.place (kind.after_drop dropped next) ≡ kind.place next

-- the places of a draft's and of a session's kept things
abbrev pub draft_of_places : {A : Type 0} → Kind A → Draft A → Draft ℕ
draft_of_places kind draft = record { inputs = draft.inputs; kept = map kind.place draft.kept }

abbrev pub session_of_places : {A : Type 0} → Kind A → Session A → Session ℕ
session_of_places kind session = record {
  current = draft_of_places kind session.current;
  older = map (draft_of_places kind) session.older;
  newer = map (draft_of_places kind) session.newer;
}

abbrev pub result_of_places : {A : Type 0} → Kind A → Result (Session A) EditRefusal
    → Result (Session ℕ) EditRefusal
result_of_places kind (Ok session) = Ok (session_of_places kind session)
result_of_places kind (Err refusal) = Err refusal

-- what is kept besides the places changes neither a place nor a refusal
abbrev pub PlacesDecide : {A : Type 0} → Kind A → Type 0
PlacesDecide {A} kind = (session : Session A) (k : ℕ) (input : Input) (x : A) →
    (result_of_places kind (set_input kind k input session)
    ≡ set_input places_alone k input (session_of_places kind session))
    × (result_of_places kind (insert_input kind k input session)
    ≡ insert_input places_alone k input (session_of_places kind session))
    × (result_of_places kind (delete_input kind k session)
    ≡ delete_input places_alone k (session_of_places kind session))
    × (result_of_places kind (undo session) ≡ undo (session_of_places kind session))
    × (result_of_places kind (redo session) ≡ redo (session_of_places kind session))
    × (result_of_places kind (keep kind x session)
    ≡ keep places_alone (kind.place x) (session_of_places kind session))
    × (result_of_places kind (drop_kept kind k session)
    ≡ drop_kept places_alone k (session_of_places kind session))

-- which places are kept after an edit of input K. After a set they are the same; after an insert those up to
-- K, and p + 1 for each p above K; after a delete those up to K, and p - 1 for each p above K
abbrev pub PlacesAfterEdits : Type 0
PlacesAfterEdits = (k p : ℕ) (places : List ℕ) →
    (is_kept places_alone p (kept_after_set places_alone k places) ≡ is_kept places_alone p places)
    × (is_kept places_alone p (kept_after_insert places_alone k places)
    ≡ ((nat_le p k && is_kept places_alone p places)
    || (nat_lt k (p - 1) && is_kept places_alone (p - 1) places)))
    × (is_kept places_alone p (kept_after_delete places_alone k places)
    ≡ ((nat_le p k && is_kept places_alone p places)
    || (nat_lt k (p + 1) && is_kept places_alone (p + 1) places)))

-- one more place is kept where 1,023 are, and refused where 1,024 are
abbrev pub KeepLimit : {A : Type 0} → Kind A → Type 0
KeepLimit {A} kind = (x : A) (session : Session A) → kind.place x ≤ length session.current.inputs
    → is_kept kind (kind.place x) session.current.kept ≡ false →
    (length session.current.kept ≤ 1023
    → keep kind x session ≡ Ok (with_list session (with_kept kind x session.current.kept)))
    × (kept_limit ≤ length session.current.kept → keep kind x session ≡ Err FullSnapshots)

-- places are kept at once where 1,024 would be kept then, and refused where 1,025 would be
abbrev pub KeepEveryLimit : Type 0
KeepEveryLimit = (every : ℕ) (session : Session ℕ) →
    let kept = all_kept (multiples every (length session.current.inputs)) session.current.kept in
    (length kept ≤ kept_limit → keep_every every session ≡ Ok (with_list session kept))
    × (kept_limit < length kept → keep_every every session ≡ Err FullSnapshots)

-- an accepted edit, keep or drop leaves places of the recording as it then is
abbrev pub PlacesStayRight : Type 0
PlacesStayRight = (n k : ℕ) (places : List ℕ) → ArePlaces n places →
    ArePlaces n (kept_after_set places_alone k places)
    × (k ≤ n → ArePlaces (n + 1) (kept_after_insert places_alone k places))
    × (k < n → ArePlaces (n - 1) (kept_after_delete places_alone k places))
    × (k ≤ n → is_kept places_alone k places ≡ false → length places < kept_limit
    → ArePlaces n (with_kept places_alone k places))
    × (k ≢ 0 → ArePlaces n (without places_alone k places))
