-- What showing, stepping, keeping and settling do to an editor, also while a state is lent out.
use Rattle.std.specs.Prelude.{◌≡◌, ℕ, ◌+◌, ◌-◌, ◌<◌, ◌⊎◌, false, List, [], ◌∷◌, length, Option, Some, None}
use Rattle.std.specs.Prelude.{option_map, Ok, ◌≢◌, Result, IfErr, OnErr, OnOk}
use Rattle.w4_defs.specs.declared.editing.EditRefusal.{EditRefusal}
use Rattle.w4_defs.specs.declared.editing.EditRefusal.TheVariants.{OutOfMemory}
use Rattle.w4_defs.specs.FramesRun.{RunsAtMost}
use Rattle.w4_defs.specs.Run.{run, run_state}
use Rattle.w4_defs.specs.Session.{is_kept, keep}
use Rattle.w4_defs.specs.State.{State, Moment, FrameRecord}
use Rattle.w4_defs.specs.KeptList.{kept_entries, place_at, state_at, SamePlaces, IsSettled, last_up_to}
use Rattle.w4_defs.specs.KeptList.{show_frames, settle_frames}
use Rattle.w4_editor.specs.Settling.{AreLinked}
use Rattle.w4_editor.specs.Showing.{copied_beside, linked_entry}
use Rattle.w4_editor.specs.Editor.{Editing, editing_setup, with_session}
use Rattle.std.specs.Borrow.{Fml, MutBor}
use Rattle.std.specs.Io.BufRead.{Rests}
use Rattle.w4_editor.specs.contracts.editor.Editor.{the_row}

-- recording, history and kept places are unchanged; kept states and links may be newer
pub record KeepsRecording (old new : Editing) : Type 0 where
  pub same : new ≡ with_session old new.session new.at
  pub inputs : new.session.current.inputs ≡ old.session.current.inputs
  pub older : new.session.older ≡ old.session.older
  pub newer : new.session.newer ≡ old.session.newer
  pub places : SamePlaces old.session.current.kept new.session.current.kept

-- the refusal is this cause; where there is none it is memory's
abbrev pub IsCauseOrMemory : Option EditRefusal → EditRefusal → Type 0
IsCauseOrMemory cause refusal = (cause ≡ Some refusal) ⊎ ((refusal ≡ OutOfMemory) × (cause ≡ None))

-- place P is shown. The frames that were run are those that had to be
pub record IsShown (p ticks_before ticks_after : ℕ) (old new : Editing) : Type 0 where
  pub recording : KeepsRecording old new
  pub at : new.at ≡ Some p
  pub settled : IsSettled
      (last_up_to p old.session.current.kept) old.session.current.kept new.session.current.kept
  pub frames_run : RunsAtMost ticks_before ticks_after
      (show_frames p old.session.current.kept new.session.current.kept)

-- no place is shown, or the last one
abbrev pub IsAtEnd : Editing → Type 0
IsAtEnd e = (e.at ≡ None) ⊎ (e.at ≡ Some (length e.session.current.inputs))

-- one place on: the session stays, and the record is that of the run
pub record IsStepped (frame_record : FrameRecord) (old new : Editing) : Type 0 where
  pub place : ℕ
  pub at : old.at ≡ Some place
  pub within : place < length old.session.current.inputs
  pub same : new ≡ with_session old old.session (Some (place + 1))
  pub record_is : option_map (λ (moment : Moment). moment.frame_record)
      (run (editing_setup old) old.disk old.session.current.inputs (place + 1)) ≡ Some frame_record

-- all entries are linked. The frames that were run are those that had to be
pub record IsAllSettled (ticks_before ticks_after : ℕ) (old new : Editing) : Type 0 where
  pub recording : KeepsRecording old new
  pub at : new.at ≡ None
  pub settled : IsSettled
      (length old.session.current.kept - 1) old.session.current.kept new.session.current.kept
  pub frames_run : RunsAtMost ticks_before ticks_after
      (settle_frames old.session.current.kept new.session.current.kept)

-- all kept states are those of a run from reset
abbrev pub AreOfRun : Editing → Type 0
AreOfRun e = (i : ℕ) → i < length e.session.current.kept →
    run_state (editing_setup e) e.disk e.session.current.inputs (place_at e.session.current.kept i)
    ≡ Some (state_at e.session.current.kept i)

-- place P is shown and isn't kept, there is room for it, and the entries below it are linked
pub record CanKeep (p : ℕ) (e : Editing) : Type 0 where
  pub at : e.at ≡ Some p
  pub fresh : is_kept kept_entries p e.session.current.kept ≡ false
  pub room : length e.session.current.kept < 1024
  pub linked : AreLinked (last_up_to p e.session.current.kept) e.session.current.kept

-- the state of the run at place P is kept, and linked, and so many chunks are copied
pub record IsPut (p copied : ℕ) (old new : Editing) : Type 0 where
  pub state : State
  pub of_run : run_state (editing_setup old) old.disk old.session.current.inputs p ≡ Some state
  pub kept : keep kept_entries (linked_entry p state) old.session ≡ Ok new.session
  pub copies : copied ≡ copied_beside p state old.session.current.kept
  pub same : new ≡ with_session old new.session old.at

-- place P is shown, and then kept
pub record IsKeptAt (p ticks_before ticks_after copied : ℕ) (old new : Editing) : Type 0 where
  pub shown : Editing
  pub is_shown : IsShown p ticks_before ticks_after old shown
  pub put : IsPut p copied shown new

-- these places are shown and kept, one after another, and so many chunks are copied in all
abbrev pub AreKeptInTurn : List ℕ → (ticks_before ticks_after copied : ℕ) → (old new : Editing) → Type 0
AreKeptInTurn [] ticks_before ticks_after copied old new =
    (ticks_after ≡ ticks_before) × (copied ≡ 0) × (new ≡ old)
AreKeptInTurn (p ∷ places) ticks_before ticks_after copied old new =
    (ticks_then : ℕ) × (first rest : ℕ) × (then : Editing)
    × (copied ≡ first + rest)
    × IsKeptAt p ticks_before ticks_then first old then
    × AreKeptInTurn places ticks_then ticks_after rest then new

-- place P is shown, and the frames that were run are those that had to be. Where memory ran out no place is
-- shown and the recording is kept; another refusal runs no frame and changes nothing
abbrev pub LendsShown : {A : Type 0} → (p ticks_before ticks_after : ℕ)
    → MutBor Editing → Result A EditRefusal → Fml
LendsShown p ticks_before ticks_after editor result = Rests the_row editor (λ now.
    OnOk result (IsShown p ticks_before ticks_after editor.now now)
    × OnErr result (KeepsRecording editor.now now)
    × IfErr result (λ refusal. refusal ≢ OutOfMemory → (now ≡ editor.now) × (ticks_after ≡ ticks_before))
    × IfErr result (λ refusal. refusal ≡ OutOfMemory → now.at ≡ None))

-- one place on, with the record of the run; a refusal changes nothing
abbrev pub LendsStepped : {A : Type 0} → FrameRecord → MutBor Editing → Result A EditRefusal → Fml
LendsStepped frame_record editor result = Rests the_row editor (λ now.
    OnOk result (IsStepped frame_record editor.now now)
    × OnErr result (now ≡ editor.now))
