-- Kept lists with states and links (project rule). An entry has a place, a state and a link. The link says
-- that the state is what the inputs between make of the state of the entry before. Entry 0 has the state of
-- the reset and is always linked. An unlinked state needn't belong to any run of the inputs as they are.
use Rattle.std.specs.Prelude.{◌≡◌, ℕ, zero, suc, ◌+◌, ◌-◌, ◌≤◌, ◌<◌, ◌&&◌, Bool, true, false, List, [], map, length, slice_index_or, slice_range, slice_set, insert, Option, Some, option_map, nat_lt, if◌then◌else◌}
use Rattle.std.specs.List.{position_or_len, All}
use Rattle.w4_defs.specs.declared.console.Input.{Input}
use Rattle.w4_defs.specs.State.{State, blank_state, HasGlobals}
use Rattle.w4_defs.specs.SameState.{same_state}
use Rattle.w4_defs.specs.Reset.{Setup, reset}
use Rattle.w4_defs.specs.Run.{fold, run_state}
use Rattle.w4_defs.specs.Session.{Kind, ArePlaces, Draft, Session, unlink_above, with_kept, without}
use Rattle.w4_defs.specs.Limits.{kept_limit, frame_limit}

pub record Entry : Type 0 where
  pub place : ℕ
  pub state : State
  pub linked : Bool

-- entries as kept things: an edit changes no state, and after a drop the next entry is linked where both were
abbrev pub kept_entries : Kind Entry
kept_entries = record {
  place = λ x. x.place;
  at = λ p x. record x { place = p };
  unlinked = λ x. record x { linked = false };
  after_drop = λ dropped next. record next { linked = dropped.linked && next.linked };
}

-- entry i; past the end one that is nowhere, and unlinked
abbrev pub nowhere : Entry
nowhere = record { place = 0; state = blank_state []; linked = false }

abbrev pub kept_entry_at : List Entry → ℕ → Entry
kept_entry_at kept i = slice_index_or kept i nowhere

abbrev pub place_at : List Entry → ℕ → ℕ
place_at kept i = (kept_entry_at kept i).place

abbrev pub state_at : List Entry → ℕ → State
state_at kept i = (kept_entry_at kept i).state

abbrev pub linked_at : List Entry → ℕ → Bool
linked_at kept i = (kept_entry_at kept i).linked

-- the places alone
abbrev pub places_of : List Entry → List ℕ
places_of kept = map (λ x. x.place) kept

-- the number of the first entry above place P, or how many entries there are
abbrev pub first_above : ℕ → List Entry → ℕ
first_above p kept = position_or_len (λ x. nat_lt p x.place) kept

-- the number of the last entry whose place is at most P
abbrev pub last_up_to : ℕ → List Entry → ℕ
last_up_to p kept = first_above p kept - 1

-- ---- what a kept list says

-- segment i: the inputs from the place of entry i to that of entry i + 1, and what they make of its state
abbrev pub kept_segment : List Input → List Entry → ℕ → List Input
kept_segment inputs kept i = slice_range inputs (place_at kept i) (place_at kept (i + 1))

abbrev pub computed : Setup → List Input → List Entry → ℕ → Option State
computed setup inputs kept i = fold setup (state_at kept i) (kept_segment inputs kept i)

-- true of its inputs: places rise within them, states have the cart's types, and every link is true
pub record HasTrueLinks (setup : Setup) (inputs : List Input) (kept : List Entry) : Type 0 where
  pub rising : (i : ℕ) → i + 1 < length kept → place_at kept i < place_at kept (i + 1)
  pub within : (i : ℕ) → i < length kept → place_at kept i ≤ length inputs
  pub globals : (i : ℕ) → i < length kept → HasGlobals setup.cart (state_at kept i)
  pub links : (i : ℕ) → i + 1 < length kept → linked_at kept (i + 1) ≡ true
      → computed setup inputs kept i ≡ Some (state_at kept (i + 1))

-- the kept list of these inputs: entry 0 has place 0 and the reset's state, and every link is true
pub record IsConsistent (setup : Setup) (disk : List ℕ) (inputs : List Input)
    (kept : List Entry) : Type 0 where
  pub some : 0 < length kept
  pub few : length kept ≤ kept_limit
  pub first_place : place_at kept 0 ≡ 0
  pub first_state : option_map (λ moment. moment.state) (reset setup disk) ≡ Some (state_at kept 0)
  pub first_linked : linked_at kept 0 ≡ true
  pub true_links : HasTrueLinks setup inputs kept

-- a draft within its limits, with a consistent kept list
pub record IsDraft (setup : Setup) (disk : List ℕ) (draft : Draft Entry) : Type 0 where
  pub few : length draft.inputs ≤ frame_limit
  pub kept : IsConsistent setup disk draft.inputs draft.kept

-- a session all of whose drafts are within their limits and consistent, those in the history too
pub record IsSession (setup : Setup) (disk : List ℕ) (session : Session Entry) : Type 0 where
  pub current : IsDraft setup disk session.current
  pub older : All (IsDraft setup disk) session.older
  pub newer : All (IsDraft setup disk) session.newer
  pub few : length session.older + length session.newer ≤ 32

-- an entry whose link and all earlier links are set has the state of a run from reset
abbrev pub LinkedIsRun : Type 0
LinkedIsRun = (setup : Setup) (disk : List ℕ) (inputs : List Input) (kept : List Entry) (i : ℕ) →
    IsConsistent setup disk inputs kept → i < length kept → ((j : ℕ) → j ≤ i → linked_at kept j ≡ true)
    → run_state setup disk inputs (place_at kept i) ≡ Some (state_at kept i)

-- ---- changes of one entry

abbrev pub without_entry : ℕ → List Entry → List Entry
without_entry p kept = without kept_entries p kept

abbrev pub unlinked_at : ℕ → List Entry → List Entry
unlinked_at i kept = slice_set kept i (kept_entries.unlinked (kept_entry_at kept i))

-- entry i is found to be true: it is linked and keeps its state
abbrev pub relinked_at : ℕ → List Entry → List Entry
relinked_at i kept =
    slice_set kept i (record { place = place_at kept i; state = state_at kept i; linked = true })

-- entry i gets a new state and is linked; the entry after it, where there is one, is unlinked
abbrev pub replaced_at : ℕ → State → List Entry → List Entry
replaced_at i state kept =
    unlinked_at (i + 1) (slice_set kept i (record { place = place_at kept i; state = state; linked = true }))

-- what an edit unlinks, by its number
abbrev pub UnlinksOne : Type 0
UnlinksOne =
    (p : ℕ) (kept : List Entry) → unlink_above kept_entries p kept ≡ unlinked_at (first_above p kept) kept

-- where an entry is put, by its number
abbrev pub KeptInOrder : Type 0
KeptInOrder =
    (x : Entry) (kept : List Entry) → with_kept kept_entries x kept ≡ insert kept (first_above x.place kept) x

-- ---- showing

-- the same places in the same order
pub record SamePlaces (old new : List Entry) : Type 0 where
  pub many : length new ≡ length old
  pub places : (i : ℕ) → place_at new i ≡ place_at old i

-- segment i needn't be run: it was linked at entry, from the state that is still there
abbrev pub is_sure : List Entry → List Entry → ℕ → Bool
is_sure old new i = linked_at old (i + 1) && same_state (state_at old i) (state_at new i)

-- the summed lengths of the doubtful segments among the first n: those that aren't sure
unfoldable pub doubtful : List Entry → List Entry → ℕ → ℕ
doubtful old new zero = 0
doubtful old new (suc n) =
    doubtful old new n + (if is_sure old new n then 0 else place_at old (n + 1) - place_at old n)

-- the entries up to this one are brought up to date and linked. Those past it keep their states, and their
-- links but for the first, which is linked if and only if the segment before it is sure
pub record IsSettled (last : ℕ) (old new : List Entry) : Type 0 where
  pub same : SamePlaces old new
  pub linked : (i : ℕ) → i ≤ last → linked_at new i ≡ true
  pub states : (i : ℕ) → last < i → state_at new i ≡ state_at old i
  pub next : linked_at new (last + 1) ≡ is_sure old new last
  pub links : (i : ℕ) → last + 1 < i → linked_at new i ≡ linked_at old i

-- how many frames a show of place P may run: the doubtful segments up to P, and from the last kept place to P
abbrev pub show_frames : ℕ → List Entry → List Entry → ℕ
show_frames p old new = doubtful old new (last_up_to p old) + (p - place_at old (last_up_to p old))

-- and how many a settling of all entries
abbrev pub settle_frames : List Entry → List Entry → ℕ
settle_frames old new = doubtful old new (length old - 1)

-- the places of a consistent kept list are kept places of the recording
abbrev pub ConsistentPlaces : Type 0
ConsistentPlaces = (setup : Setup) (disk : List ℕ) (inputs : List Input) (kept : List Entry) →
    IsConsistent setup disk inputs kept → ArePlaces (length inputs) (places_of kept)
