-- The answer of one line of a live session: the step of the line, what is edited then, and what is known
-- where it stopped.
use Rattle.std.specs.Prelude.{◌≡◌, ◌⊎◌, ◌≤◌, ℕ, List, [], ◌++◌, Option, Some, Result, Ok, Err, Bool, true}
use Rattle.std.specs.Prelude.{false, codes, ⊤}
use Rattle.w4_defs.specs.declared.status.Refusal.{Refusal}
use Rattle.w4_defs.specs.Endings.{Manner, ReadFailed, InputFailed, WriteFailed, MemoryRefused, Refused}
use Rattle.w4_defs.specs.Endings.{manner_of}
use Rattle.w4_defs.specs.Live.{LiveSession, Opened, SaveEnd, asked_of, line_step, recording_left, taken_lines}
use Rattle.w4_defs.specs.Live.{Asked, AsksNothing, NoOrder, Asks, framed, live_answer, save_events}
use Rattle.w4_defs.specs.Output.{run_setup}
use Rattle.w4_defs.specs.Recording.{Recording}
use Rattle.w4_defs.specs.Search.{Search}
use Rattle.w4_defs.specs.World.{Event, World, RisesBy, Does, OutFails, failed_saves}
use Rattle.w4_editor.specs.Editor.{Editing, current_recording, editing_setup, place_session}
use Rattle.std.specs.Option.{ForSome}
use Rattle.w4_defs.specs.declared.live.LiveOrder.TheVariants as live
use Rattle.w4_defs.specs.Answers.{Answered, answer_text, carried_out}
use Rattle.w4_defs.specs.ScriptAnswers.{refused_line}
use Rattle.w4_answers.specs.Writing.{AppendsOut, StopsWriting}

-- a line's step, whatever saves are to come after its own
pub record StepsTo (o : Opened) (s : LiveSession) (line : List ℕ) (mine : List SaveEnd) (events : List Event)
    (next : LiveSession) : Type 0 where
  pub step : (ends : List SaveEnd) → line_step o s (mine ++ ends) (asked_of line)
      ≡ record { events = Some events; session = next; saves = ends }
  pub untaken : taken_lines events ≡ []

-- the editor and the search of a session: the editor's inputs, history and kept places are the session's, and
-- its runs are those of the recording that was opened
pub record Sits (o : Opened) (s : LiveSession) (e : Editing) (standing : Option Search) : Type 0 where
  pub session : place_session e ≡ s.session
  pub search : standing ≡ s.search
  pub setup : editing_setup e ≡ run_setup o.cart o.run
  pub disk : e.disk ≡ o.run.recording.disk
  pub recording : current_recording e ≡ recording_left o s

-- a first part of a list
abbrev pub IsFront : List Event → List Event → Type 0
IsFront front events = (behind : List Event) × (events ≡ front ++ behind)

-- what an answer may leave where memory ran out: the recording after the line, or, where nothing of its
-- answer was done yet, the one before it
abbrev pub LeavesEither : Opened → LiveSession → LiveSession → List Event → Recording → Type 0
LeavesEither o s next front left =
    (left ≡ recording_left o next) ⊎ ((front ≡ []) × (left ≡ recording_left o s))

-- just these events have happened, and the count of writes has risen with each save among them that failed
abbrev pub DoesCounted : World → World → List Event → Type 0
DoesCounted old new done = Does old new done × RisesBy (failed_saves done) old.write_faults new.write_faults

-- just these events have happened, and then a write to standard output failed
abbrev pub FailsToWrite : World → World → List Event → Type 0
FailsToWrite old new done = Does old new done × OutFails old new done

-- why the answer of a line stopped; a first part of what the line does was done, and this recording is left
abbrev pub LineStops : World → World → Manner → Opened → LiveSession → List ℕ → Recording → Type 0
LineStops old new ReadFailed o s line left = ⊥
LineStops old new InputFailed o s line left = ⊥
LineStops old new WriteFailed o s line left =
    (mine : List SaveEnd) × (events : List Event) × (next : LiveSession) × StepsTo o s line mine events next
    × (front : List Event) × IsFront front events × FailsToWrite old new front
    × (left ≡ recording_left o next)
LineStops old new MemoryRefused o s line left =
    (mine : List SaveEnd) × (events : List Event) × (next : LiveSession) × StepsTo o s line mine events next
    × (front : List Event) × IsFront front events × Does old new front × LeavesEither o s next front left
LineStops old new (Refused why) o s line left = ⊥

-- a line was answered
abbrev pub LineAnswered : World → World → Opened → LiveSession → List ℕ → Editing → Option Search → Type 0
LineAnswered old new o s line e search =
    (mine : List SaveEnd) × (events : List Event) × (next : LiveSession) × StepsTo o s line mine events next
    × DoesCounted old new events × Sits o next e search

-- what answering a line gave
abbrev pub AnswersLine : {X : Type 0} → World → World → Result X Refusal → Opened → LiveSession → List ℕ
    → Editing → Option Search → Type 0
AnswersLine old new (Ok x) o s line e search = LineAnswered old new o s line e search
AnswersLine old new (Err why) o s line e search =
    LineStops old new (manner_of why) o s line (current_recording e)

-- standard error is as it was, and no count has fallen
pub record LeavesServing (old new : World) : Type 0 where
  pub err : new.err ≡ old.err
  pub errs : new.err_faults ≡ old.err_faults
  pub reads : old.read_faults ≤ new.read_faults
  pub writes : old.write_faults ≤ new.write_faults

-- whether a line asks for OUT to be saved
abbrev pub asks_save : Asked → Bool
asks_save (Asks live.Save) = true
asks_save asked = false

-- the pieces of a line's answer, and the session left; `save` does more, and is no part of it
abbrev pub asked_answer : Opened → LiveSession → Asked → Answered LiveSession
asked_answer o s AsksNothing = carried_out s
asked_answer o s NoOrder = answer_text s (Some (framed (refused_line (codes "no order"))))
asked_answer o s (Asks order) = live_answer framed (run_setup o.cart o.run) o.run.recording.disk s order

-- the recording that is left where pieces stopped: the one after the line; or, where memory ran out and the
-- answer has no pieces, the one before it
abbrev pub LeavesLive : Manner → Opened → LiveSession → LiveSession → List ℕ → Recording → Type 0
LeavesLive MemoryRefused o s next bytes left =
    (left ≡ recording_left o next) ⊎ ((bytes ≡ []) × (left ≡ recording_left o s))
LeavesLive WriteFailed o s next bytes left = left ≡ recording_left o next
LeavesLive why o s next bytes left = ⊤

-- what writing the pieces gave: all of them, and the editor and the search are those of the session left; or
-- a first part
abbrev pub GivesPieces : {X : Type 0} → World → World → Result X Refusal → Opened → LiveSession
    → Answered LiveSession → Editing → Option Search → Type 0
GivesPieces old new (Ok x) o s wanted e search =
    ForSome wanted.out (λ out. AppendsOut old.events new.events out) × Sits o wanted.session e search
GivesPieces old new (Err why) o s wanted e search =
    ForSome wanted.out (λ out. StopsWriting old new (manner_of why) out
    × LeavesLive (manner_of why) o s wanted.session out (current_recording e))

-- a first part of events was done
abbrev pub DoesPart : World → World → List Event → Type 0
DoesPart old new events = (front : List Event) × IsFront front events × Does old new front

-- why events stopped
abbrev pub StopsDoing : World → World → Manner → List Event → Type 0
StopsDoing old new ReadFailed events = ⊥
StopsDoing old new InputFailed events = ⊥
StopsDoing old new WriteFailed events =
    (front : List Event) × IsFront front events × FailsToWrite old new front
StopsDoing old new MemoryRefused events = DoesPart old new events
StopsDoing old new (Refused why) events = ⊥

-- what doing them gave
abbrev pub Done : {X : Type 0} → World → World → Result X Refusal → List Event → Type 0
Done old new (Ok x) events = DoesCounted old new events
Done old new (Err why) events = StopsDoing old new (manner_of why) events

-- what a `save` gave: it ended so
abbrev pub AnswersSave : {X : Type 0} → World → World → Result X Refusal → Opened → LiveSession → Type 0
AnswersSave old new result o s = (end : SaveEnd) × Done old new result (save_events o s end)
