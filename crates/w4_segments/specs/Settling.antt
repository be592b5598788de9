-- What a settling by many workers leaves: what one leaves.
use Rattle.std.specs.Prelude.{◌≡◌, ◌-◌, ◌⊎◌, length, None}
use Rattle.w4_defs.specs.KeptList.{IsSession, IsSettled}
use Rattle.w4_editor.specs.Editor.{Editing, editing_setup}
use Rattle.w4_editor.specs.Settling.{AreLinked}
use Rattle.w4_editor.specs.Playing.{KeepsRecording, AreOfRun}

-- all entries are linked
abbrev pub AreAllLinked : Editing → Type 0
AreAllLinked e = AreLinked (length e.session.current.kept - 1) e.session.current.kept

-- all entries are linked and have the states of a run from reset, and no place is shown
pub record IsSettledWide (old new : Editing) : Type 0 where
  pub recording : KeepsRecording old new
  pub at : new.at ≡ None
  pub settled : IsSettled
      (length old.session.current.kept - 1) old.session.current.kept new.session.current.kept
  pub states : AreOfRun new

-- memory ran out: recording, history and kept places are unchanged, kept states and links are true of the
-- inputs, and the place that was shown still is, or none
pub record IsPartlySettled (old new : Editing) : Type 0 where
  pub recording : KeepsRecording old new
  pub consistent : IsSession (editing_setup new) new.disk new.session
  pub at : (new.at ≡ old.at) ⊎ (new.at ≡ None)
