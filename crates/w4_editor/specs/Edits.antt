-- An edit of several inputs at once (project rule), and how an edit is refused.
use Rattle.std.specs.Prelude.{ℕ, ◌+◌, List, length, Option, Some, None, Result, nat_le, nat_lt, if◌then◌else◌}
use Rattle.std.specs.Prelude.{◌≡◌, ◌⊎◌, Err, IsOk}
use Rattle.w4_defs.specs.declared.console.Input.{Input}
use Rattle.w4_defs.specs.declared.editing.EditRefusal.{EditRefusal}
use Rattle.w4_defs.specs.declared.editing.EditRefusal.TheVariants.{NoFrame, FullRecording, OutOfMemory}
use Rattle.w4_defs.specs.KeptList.{Entry}
use Rattle.w4_defs.specs.Limits.{frame_limit}
use Rattle.w4_defs.specs.Session.{Draft, Session, edited, unless}
use Rattle.w4_editor.specs.Draft.{overwrite_draft}

abbrev pub overwrite_refusal : ℕ → List Input → Draft Entry → Option EditRefusal
overwrite_refusal k written draft =
    if nat_lt (length draft.inputs) k then Some NoFrame else
    if nat_le (k + length written) frame_limit then None else
    Some FullRecording

abbrev pub overwrite_inputs : ℕ → List Input → Session Entry → Result (Session Entry) EditRefusal
overwrite_inputs k written session =
    unless (overwrite_refusal k written session.current)
    (edited session (overwrite_draft k written session.current))

-- the refusal is that of the session after the order; where it has none it is memory's
abbrev pub IsErrorOrMemory : Result (Session Entry) EditRefusal → EditRefusal → Type 0
IsErrorOrMemory after refusal = (after ≡ Err refusal) ⊎ ((refusal ≡ OutOfMemory) × IsOk after)
