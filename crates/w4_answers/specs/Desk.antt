-- What a call at the desk leaves of an editor, and how many frames it runs at most (project rule): those that
-- showing the first place needs, and one for each place that is asked for.
use Rattle.std.specs.Prelude.{◌≡◌, ℕ, List, Option, ◌+◌, ◌-◌, ◌≤◌, ◌⊎◌, Some}
use Rattle.w4_defs.specs.PlaceTexts.{PieceForm}
use Rattle.w4_editor.specs.Editor.{Editing, editing_setup, KeepsRest, place_session}
use Rattle.w4_defs.specs.declared.place_text.PlaceText.{PlaceText}
use Rattle.w4_defs.specs.ScriptAnswers.{one_text}
use Rattle.w4_defs.specs.FramesRun.{RunsAtMost}
use Rattle.w4_defs.specs.KeptList.{show_frames}

-- inputs, history and kept places are unchanged: at most the place that is shown is another
pub record OnlyShows (old new : Editing) : Type 0 where
  pub session : place_session new ≡ place_session old
  pub rest : KeepsRest old new

-- what is told of a place
abbrev pub text_by : PieceForm → Editing → PlaceText → ℕ → Option (List ℕ)
text_by form e wanted p = one_text form (editing_setup e) e.disk (place_session e) wanted p

-- the frames that showing a place needs, and so many more
abbrev pub RunsOn : (place more ticks_before ticks_after : ℕ) → (old new : Editing) → Type 0
RunsOn place more ticks_before ticks_after old new = RunsAtMost ticks_before ticks_after
    (show_frames place old.session.current.kept new.session.current.kept + more)

-- the text of a place was made: the place is shown then, or it is the record of the reset and
-- no frame was run
pub record IsMade (lead place ticks_before ticks_after : ℕ) (old new : Editing) : Type 0 where
  pub shown : (new.at ≡ Some place)
      ⊎ ((place ≡ 0) × (lead ≡ 1) × (new ≡ old) × (ticks_after ≡ ticks_before))
  pub frames_run : RunsOn (place - lead) 1 ticks_before ticks_after old new

-- where the place before it is shown, the text of a place takes one frame
abbrev pub StepsOn : (place ticks_before ticks_after : ℕ) → (old new : Editing) → Type 0
StepsOn place ticks_before ticks_after old new =
    1 ≤ place → old.at ≡ Some (place - 1) →
    (ticks_after ≤ ticks_before + 1) × (new.session.current.kept ≡ old.session.current.kept)
