-- Laws of a recording's text: it makes the inputs again over a recording without frames, as a script and
-- line by line in a live session. Budget and disk, which are remarks in it, are those of that recording.
use Rattle.std.specs.Prelude.{◌≡◌, ℕ, ◌≤◌, List, [], ◌∷◌, flat_map, length, Some, IsOkAnd}
use Rattle.w4_defs.specs.InputsText.{inputs_text}
use Rattle.w4_defs.specs.Limits.{script_limit}
use Rattle.w4_defs.specs.Lines.{pieces}
use Rattle.w4_defs.specs.Live.{Opened, SaveEnd, answer_end, first_live_session, session_after, session_events}
use Rattle.w4_defs.specs.Recording.{IsRecording, Recording}
use Rattle.w4_defs.specs.Reset.{Setup}
use Rattle.w4_defs.specs.Script.{script_of}
use Rattle.w4_defs.specs.ScriptAnswers.{script_answers}
use Rattle.w4_defs.specs.World.{Event, Took, wrote}

-- a text that isn't too long for a script: all its orders are carried out, and nothing is written
abbrev pub ScriptRemakesInputs : Type 0
ScriptRemakesInputs = (r : Recording) → IsRecording r → length (inputs_text r) ≤ script_limit
    → IsOkAnd (script_of (inputs_text r)) (λ orders. (setup : Setup) (disk : List ℕ) →
    let left = script_answers setup disk [] orders in
    (left.out ≡ Some []) × (left.session.current.inputs ≡ r.frames))

-- the lines of the text
abbrev pub text_lines : Recording → List (List ℕ)
text_lines r = pieces 10 (inputs_text r)

abbrev pub LinesRemakeInputs : Type 0
LinesRemakeInputs = (r : Recording) → IsRecording r → (o : Opened) → o.run.recording.frames ≡ []
    → (session_after o (first_live_session o) (text_lines r)).session.current.inputs ≡ r.frames

-- a line that is taken, and whose answer has no piece
abbrev pub answered_by_end : List ℕ → List Event
answered_by_end line = Took line ∷ wrote answer_end

-- Each line is carried out, or is a remark. The remark of a disk of more than 508 bytes is too long for a
-- line of a session, which refuses it as no order.
abbrev pub LinesAreCarriedOut : Type 0
LinesAreCarriedOut = (r : Recording) → IsRecording r → length r.disk ≤ 508
    → (o : Opened) (saves : List SaveEnd) → o.run.recording.frames ≡ [] →
    session_events o (first_live_session o) saves (text_lines r)
    ≡ Some (flat_map answered_by_end (text_lines r))
