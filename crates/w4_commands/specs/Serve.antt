-- A live session as its loop sees it: what was done for the lines taken so far, and what is edited then.
use Rattle.std.specs.Prelude.{ℕ, List, ◌≡◌, ◌⊎◌, [], ◌∷◌, ◌++◌, Some, option_map, Result, Ok, Err, ⊤}
use Rattle.w4_commands.specs.declared.load.RunFiles.{RunFiles}
use Rattle.w4_defs.specs.Live.{Opened, LiveSession, SaveEnd, Talk, first_live_session, recording_left, served}
use Rattle.w4_defs.specs.Live.{session_after, session_events, taken_lines}
use Rattle.w4_defs.specs.Module.{WasmModule}
use Rattle.w4_defs.specs.declared.status.Refusal.{Refusal}
use Rattle.w4_defs.specs.declared.status.Refusal.TheVariants as refusal
use Rattle.w4_defs.specs.Endings.{Manner, ReadFailed, InputFailed, WriteFailed, MemoryRefused, Refused}
use Rattle.w4_defs.specs.Endings.{manner_of}
use Rattle.w4_defs.specs.Output.{Output}
use Rattle.w4_defs.specs.Recording.{Recording}
use Rattle.w4_defs.specs.World.{Event, Files, Took, InputEnded, InputLost, World, Rises, Does, OutFails}
use Rattle.w4_answers.specs.Saving.{Replaces}
use Rattle.w4_commands.specs.Load.{run_files_view}
use Rattle.w4_answers.specs.LiveAnswer.{StepsTo, IsFront, LeavesEither, DoesCounted}

-- what a session is opened on
abbrev pub opened_view : WasmModule → RunFiles → List ℕ → Opened
opened_view cart p out = record { cart = cart; run = run_files_view p; out = out }

-- the events of the lines so far, whatever lines are still to come; how the saves among them ended; and the
-- session that they leave
pub record HasServed (o : Opened) (lines : List (List ℕ)) (saves : List SaveEnd) (done : List Event)
    (s : LiveSession) : Type 0 where
  pub goes_on : (more : List (List ℕ)) (ends : List SaveEnd)
      → session_events o (first_live_session o) (saves ++ ends) (lines ++ more)
      ≡ option_map (λ later. done ++ later) (session_events o s ends more)
  pub left : session_after o (first_live_session o) lines ≡ s
  pub taken : taken_lines done ≡ lines

-- so far all lines that were taken are answered
pub record Serves (old new : World) (o : Opened) (s : LiveSession) : Type 0 where
  pub lines : List (List ℕ)
  pub saves : List SaveEnd
  pub done : List Event
  pub served : HasServed o lines saves done s
  pub does : DoesCounted old new done

-- then a line was taken, and a first part of what it does was done
pub record ServesPart (old new : World) (o : Opened) (s next : LiveSession) : Type 0 where
  pub lines : List (List ℕ)
  pub saves : List SaveEnd
  pub done : List Event
  pub served : HasServed o lines saves done s
  pub line : List ℕ
  pub mine : List SaveEnd
  pub events : List Event
  pub step : StepsTo o s line mine events next
  pub front : List Event
  pub is_front : IsFront front events
  pub does : Does old new (done ++ Took line ∷ front)

-- all lines are answered, and then this one event happened
pub record ServesThen (old new : World) (o : Opened) (s : LiveSession) (last : Event) : Type 0 where
  pub lines : List (List ℕ)
  pub saves : List SaveEnd
  pub done : List Event
  pub served : HasServed o lines saves done s
  pub does : Does old new (done ++ last ∷ [])

-- why the lines stopped, and the recording that is left
abbrev pub LinesStop : World → World → Manner → Opened → Recording → Type 0
LinesStop old new ReadFailed o left = ⊥
LinesStop old new InputFailed o left = Rises old.read_faults new.read_faults
    × (s : LiveSession) × ServesThen old new o s InputLost × (left ≡ recording_left o s)
LinesStop old new WriteFailed o left =
    (s next : LiveSession) × (part : ServesPart old new o s next)
    × OutFails old new (part.done ++ Took part.line ∷ part.front) × (left ≡ recording_left o next)
LinesStop old new MemoryRefused o left =
    ((s : LiveSession) × Serves old new o s × (left ≡ recording_left o s))
    ⊎ (((s : LiveSession) × ServesThen old new o s InputLost × (left ≡ recording_left o s))
    ⊎ ((s next : LiveSession) × (part : ServesPart old new o s next) × LeavesEither o s next part.front left))
LinesStop old new (Refused why) o left = ⊥

-- what answering all lines gave: the input is at its end, or why they stopped
abbrev pub AnswersLines : {X : Type 0} → World → World → Result X Refusal → Opened → Recording → Type 0
AnswersLines old new (Ok x) o left =
    (s : LiveSession) × ServesThen old new o s InputEnded × (left ≡ recording_left o s)
AnswersLines old new (Err why) o left = LinesStop old new (manner_of why) o left

-- why a session is refused that was stopped, once the recording left was saved or not
abbrev pub stop_refusal : {X : Type 0} → Refusal → Result X Refusal → Refusal
stop_refusal refusal.OutOfMemory saved = refusal.OutOfMemory
stop_refusal why (Ok x) = why
stop_refusal why (Err fault) = fault

-- what a session over some lines does
abbrev pub ServedStep : Opened → Files → Result Output Refusal → Type 0
ServedStep o files output = (talk : Talk) × (option_map Ok (served o talk) ≡ Some output)

-- why no line was taken
abbrev pub LosesLine : World → World → Manner → Type 0
LosesLine old new ReadFailed = ⊥
LosesLine old new InputFailed = Rises old.read_faults new.read_faults × Does old new (InputLost ∷ [])
LosesLine old new WriteFailed = ⊥
LosesLine old new MemoryRefused = Does old new [] ⊎ Does old new (InputLost ∷ [])
LosesLine old new (Refused why) = ⊥

-- the recording left was saved or not after a stop
abbrev pub EndsStopped : {X : Type 0} → World → World → Result X Refusal → List ℕ → List ℕ → Refusal → Type 0
EndsStopped old new (Ok x) name bytes why = ⊥
EndsStopped old new (Err ended) name bytes why =
    (saved : Result ⊤ Refusal) × Replaces old new saved name bytes × (ended ≡ stop_refusal why saved)
