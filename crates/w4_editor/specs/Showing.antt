-- What is shown, stepped to and kept. These words speak of no disk, so that what they say holds for every
-- disk at the reset.
use Rattle.std.specs.Prelude.{◌≡◌, ℕ, ◌+◌, true, List, slice_range, Some}
use Rattle.w4_console.specs.declared.taken.FrameTaken.{FrameTaken}
use Rattle.w4_console.specs.Taken.{TellsUnits}
use Rattle.w4_defs.specs.declared.console.Input.{Input}
use Rattle.w4_defs.specs.State.{State, Moment}
use Rattle.w4_defs.specs.Reset.{Setup}
use Rattle.w4_defs.specs.Run.{fold, run, run_state}
use Rattle.w4_defs.specs.KeptList.{Entry, place_at, state_at, IsConsistent, last_up_to}
use Rattle.w4_snap.specs.Chunks.{copied_chunks}

-- the state at place P is what the inputs from entry i on make of its state
abbrev pub ShowsFrom : Setup → List Input → List Entry → ℕ → ℕ → State → Type 0
ShowsFrom setup inputs kept i p state =
    fold setup (state_at kept i) (slice_range inputs (place_at kept i) p) ≡ Some state

-- for every disk at the reset: where the list is consistent, the state is that of a run up to place P
abbrev pub IsOfRun : Setup → List Input → List Entry → ℕ → State → Type 0
IsOfRun setup inputs kept p state =
    (disk : List ℕ) → IsConsistent setup disk inputs kept → run_state setup disk inputs p ≡ Some state

-- from the state of a run at place P to its next moment
abbrev pub MovesOn : Setup → List Input → ℕ → State → Moment → Type 0
MovesOn setup inputs p state next = (disk : List ℕ) →
    run_state setup disk inputs p ≡ Some state → run setup disk inputs (p + 1) ≡ Some next

-- from the state of a run at place P a frame takes so much
abbrev pub TakesOn : Setup → List Input → ℕ → State → FrameTaken → Type 0
TakesOn setup inputs p state taken = (disk : List ℕ) →
    run_state setup disk inputs p ≡ Some state → TellsUnits setup disk inputs p taken

-- the linked entry of place P with this state
abbrev pub linked_entry : ℕ → State → Entry
linked_entry p state = record { place = p; state = state; linked = true }

-- how many chunks are copied where place P is kept with this state, beside the last kept place before it
abbrev pub copied_beside : ℕ → State → List Entry → ℕ
copied_beside p state kept = copied_chunks (Some (state_at kept (last_up_to p kept))) state
