-- An editor as the answers of a script see it: its session of places, and what its runs have in common
-- (project rule). Each order is answered from these alone.
use Rattle.std.specs.Prelude.{◌≡◌, ℕ, List, Result, Ok, Err, ◌+◌, ◌-◌}
use Rattle.std.specs.Option.{ForSome}
use Rattle.w4_defs.specs.declared.order.Order.{Order}
use Rattle.w4_defs.specs.Recording.{Recording}
use Rattle.w4_defs.specs.Session.{Session}
use Rattle.w4_defs.specs.PlaceTexts.{PieceForm}
use Rattle.w4_editor.specs.Editor.{Editing, current_recording, editing_setup, KeepsRest, place_session}
use Rattle.w4_defs.specs.World.{World}
use Rattle.w4_answers.specs.Writing.{AppendsOut, StopsWriting}
use Rattle.w4_defs.specs.declared.status.Refusal.{Refusal}
use Rattle.w4_defs.specs.ScriptAnswers.{answer, answers}
use Rattle.w4_defs.specs.Answers.{Answered}
use Rattle.w4_defs.specs.Endings.{Manner, WriteFailed, manner_of}
use Rattle.w4_defs.specs.declared.order.Order.TheVariants as order
use Rattle.w4_segments.specs.Settling.{IsSettledWide}
use Rattle.w4_answers.specs.Desk.{RunsOn}
use Rattle.w4_answers.specs.ChangeAnswer.{ChangesWithin}

-- the answer of an order
abbrev pub answer_by : PieceForm → Editing → Order → Answered (Session ℕ)
answer_by form e order = answer form (editing_setup e) e.disk (place_session e) order

-- the answers of a script's orders, one after another, and the recording that they leave
abbrev pub answers_by : Editing → List Order → Answered (Session ℕ)
answers_by e orders = answers (editing_setup e) e.disk (place_session e) orders

abbrev pub recording_by : Editing → List Order → Recording
recording_by e orders = record (current_recording e) { frames = (answers_by e orders).session.current.inputs }

-- an order was answered so: standard output has got the answer, and the session is the one that is left
pub record IsAnswered (before after : World) (old new : Editing) (wanted : Answered (Session ℕ)) : Type 0
  where
    pub out : ForSome wanted.out (λ out. AppendsOut before.events after.events out)
    pub session : place_session new ≡ wanted.session
    pub rest : KeepsRest old new

-- what answering orders gave: that, or a first part of the answers where they stopped
abbrev pub GivesAnswers : {X : Type 0} → World → World → Result X Refusal → Editing → Editing
    → Answered (Session ℕ) → Type 0
GivesAnswers before after (Ok x) old new wanted = IsAnswered before after old new wanted
GivesAnswers before after (Err why) old new wanted =
    ForSome wanted.out (λ out. StopsWriting before after (manner_of why) out)

-- the recording that is left where an order stopped: the one after it, where its answer couldn't be written;
-- else the one before it
abbrev pub LeavesRecording : Manner → Editing → Editing → Session ℕ → Type 0
LeavesRecording WriteFailed old new left =
    current_recording new ≡ record (current_recording old) { frames = left.current.inputs }
LeavesRecording why old new left = current_recording new ≡ current_recording old

-- what answering one gave; where it stopped, a first part of the answer, and the recording
abbrev pub GivesAnswer : {X : Type 0} → World → World → Result X Refusal → Editing → Editing
    → Answered (Session ℕ) → Type 0
GivesAnswer before after (Ok x) old new wanted = IsAnswered before after old new wanted
GivesAnswer before after (Err why) old new wanted =
    ForSome wanted.out (λ out. StopsWriting before after (manner_of why) out)
    × LeavesRecording (manner_of why) old new wanted.session

-- an order is answered within so many frames. Films and settling are run by workers with counts of their own;
-- a settling leaves all kept places up to date
abbrev pub AnswersWithin : Order → (ticks_before ticks_after : ℕ) → (old new : Editing) → Type 0
AnswersWithin (order.Show p) ticks_before ticks_after old new = RunsOn p 1 ticks_before ticks_after old new
AnswersWithin (order.Tones a b) ticks_before ticks_after old new =
    RunsOn (a - 1) (b + 1 - a) ticks_before ticks_after old new
AnswersWithin (order.Traces a b) ticks_before ticks_after old new =
    RunsOn (a - 1) (b + 1 - a) ticks_before ticks_after old new
AnswersWithin (order.DiskAt p) ticks_before ticks_after old new = RunsOn p 1 ticks_before ticks_after old new
AnswersWithin (order.StateAt p) ticks_before ticks_after old new = RunsOn p 0 ticks_before ticks_after old new
AnswersWithin (order.Film a b workers) ticks_before ticks_after old new = ticks_after ≡ ticks_before
AnswersWithin (order.Settle workers) ticks_before ticks_after old new =
    (ticks_after ≡ ticks_before) × IsSettledWide old new
AnswersWithin other ticks_before ticks_after old new =
    ChangesWithin other ticks_before ticks_after old new
