-- What a replica is seen as, why a call of it is refused, and what its calls leave.
use Rattle.std.specs.Prelude.{Option, Some, None, ◌≡◌, ℕ, ◌≤◌, List, length}
use Rattle.w4_defs.specs.declared.editing.EditRefusal.{EditRefusal}
use Rattle.w4_defs.specs.declared.editing.EditRefusal.TheVariants as edit
use Rattle.w4_defs.specs.declared.net_refusal.NetRefusal.{NetRefusal}
use Rattle.w4_defs.specs.declared.net_refusal.NetRefusal.TheVariants.{NoPlayer, FrameRange, Conflict}
use Rattle.w4_defs.specs.declared.net_refusal.NetRefusal.TheVariants.{FullRecording, NoFrame, Kept}
use Rattle.w4_defs.specs.declared.net_refusal.NetRefusal.TheVariants.{FullSnapshots, OutOfMemory}
use Rattle.w4_defs.specs.declared.console.Input.{Input}
use Rattle.w4_defs.specs.FramesRun.{RunsAtMost}
use Rattle.w4_defs.specs.KeptList.{places_of}
use Rattle.w4_defs.specs.Rollback.{Known, net_inputs}
use Rattle.w4_defs.specs.Session.{Draft, places_alone, with_kept}
use Rattle.w4_editor.specs.Editor.{Editing, with_session}
use Rattle.w4_editor.specs.Playing.{IsPut, IsCauseOrMemory}
use Rattle.w4_netplay.specs.Rollback.{rollback_frames, KeepsLinks, IsRight}
use Rattle.w4_netplay.specs.Pads.{known_in}

-- the editor's word for a refusal, where it has one
abbrev pub edit_refusal : NetRefusal → Option EditRefusal
edit_refusal NoPlayer = None
edit_refusal FrameRange = None
edit_refusal (Conflict kept got) = None
edit_refusal FullRecording = Some edit.FullRecording
edit_refusal NoFrame = Some edit.NoFrame
edit_refusal Kept = Some edit.Kept
edit_refusal FullSnapshots = Some edit.FullSnapshots
edit_refusal OutOfMemory = Some edit.OutOfMemory

-- for each frame what is known of the four pads, how many frames have passed, and the editor
pub record Netplay : Type 0 where
  pub pads : List (List (Option ℕ))
  pub frames : ℕ
  pub editor : Editing

abbrev pub known_of : Netplay → Known
known_of r = known_in r.pads

abbrev pub places_kept : Netplay → List ℕ
places_kept r = places_of r.editor.session.current.kept

-- the predicted inputs of the frames that have passed
abbrev pub prediction : Netplay → List Input
prediction r = net_inputs (known_of r) r.frames

-- the recording that is predicted, with the kept places
abbrev pub predicted_draft : Netplay → Draft ℕ
predicted_draft r = record { inputs = prediction r; kept = places_kept r }

-- at most 36,000 frames have passed, and the editor has at most so many inputs
pub record IsReplica (frames : ℕ) (editor : Editing) : Type 0 where
  pub few : frames ≤ 36000
  pub inputs : length editor.session.current.inputs ≤ frames

-- a refusal is the editor's own; where the editor has none it is memory's
pub record IsNetRefusal (wanted : Option EditRefusal) (refusal : NetRefusal) : Type 0 where
  pub reason : EditRefusal
  pub word : edit_refusal refusal ≡ Some reason
  pub cause : IsCauseOrMemory wanted reason

-- what is known, the number of frames and the kept places are unchanged, and so is all that the editor has
-- besides its drafts and the place that it shows
pub record KeepsNetplay (old new : Netplay) : Type 0 where
  pub pads : new.pads ≡ old.pads
  pub frames : new.frames ≡ old.frames
  pub kept : places_kept new ≡ places_kept old
  pub rest : new.editor ≡ with_session old.editor new.editor.session new.editor.at

-- place P of the predicted recording is shown. The frames that were run are those that had to be
pub record ShowsPlace (p before after : ℕ) (old new : Netplay) : Type 0 where
  pub netplay : KeepsNetplay old new
  pub inputs : new.editor.session.current.inputs ≡ prediction old
  pub at : new.editor.at ≡ Some p
  pub frames_run : RunsAtMost before after
      (rollback_frames p old.editor.session.current.inputs (prediction old)
      old.editor.session.current.kept new.editor.session.current.kept)

-- place P is shown, and then kept with the state of the run
pub record KeepsPlace (p before after : ℕ) (old new : Netplay) : Type 0 where
  pub shown : Netplay
  pub is_shown : ShowsPlace p before after old shown
  pub copied : ℕ
  pub put : IsPut p copied shown.editor new.editor
  pub pads : new.pads ≡ old.pads
  pub frames : new.frames ≡ old.frames
  pub kept : places_kept new ≡ with_kept places_alone p (places_kept old)

-- the editor of a replica has the predicted inputs
pub record IsRolled (old new : Netplay) : Type 0 where
  pub netplay : KeepsNetplay old new
  pub inputs : new.editor.session.current.inputs ≡ prediction old
  pub links : KeepsLinks (IsRight (known_of old) old.frames old.editor.session.current.inputs)
      old.editor.session.current.kept new.editor.session.current.kept
