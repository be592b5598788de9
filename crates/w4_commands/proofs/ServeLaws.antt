-- What a session over lines comes to once its files are read, and its loop: one line after another, up to the
-- end of the input or a stop.
use Rattle.std.proofs.Common.{◌≡◌, [], Some, option_map, Result, Ok, Err, ap, ◌∙◌, ◌≤◌, ℕ, inl, inr, Option}
use Rattle.std.proofs.Common.{None, List, ◌∷◌, ◌++◌, refl, sym, subst, arith}
use Rattle.std.specs.Option.{ForSome}
use Rattle.w4_defs.specs.declared.status.Refusal.{Refusal}
use Rattle.w4_defs.specs.Causes.{Ends}
use Rattle.w4_defs.specs.Commands.{ServeWords}
use Rattle.w4_defs.specs.Endings.{manner_of, Manner, ReadFailed, InputFailed, WriteFailed, MemoryRefused}
use Rattle.w4_defs.specs.Endings.{Refused}
use Rattle.w4_defs.specs.Live.{Opened, Talk, serve_output, served, LiveSession, first_live_session}
use Rattle.w4_defs.specs.Live.{recording_left}
use Rattle.w4_defs.specs.Output.{CartFile, Output, Played, making, run_files}
use Rattle.w4_defs.specs.World.{Files, World, LeavesReading, Event, Took, InputEnded, InputLost, Does}
use Rattle.w4_defs.specs.World.{LeavesTaking}
use Rattle.w4_commands.specs.Commands.{EndsDone, finished}
use Rattle.w4_commands.specs.Load.{ResultsIn, Stops}
use Rattle.w4_commands.specs.Serve.{ServedStep, LinesStop, LosesLine, Serves, ServesThen}
use Rattle.w4_answers.specs.LiveAnswer.{DoesCounted, FailsToWrite, LeavesServing, LineAnswered, LineStops}
use Rattle.w4_answers.specs.LiveAnswer.{Sits}
use Rattle.w4_commands.proofs.CommandLaws.{Step, ends_as, ends_later, ends_unread}
use Rattle.std.proofs.lemmas.List.{append-nil}
use Rattle.w4_defs.specs.Recording.{Recording}
use Rattle.w4_defs.specs.Search.{Search}
use Rattle.w4_defs.specs.State.{State}
use Rattle.w4_editor.specs.Editor.{Editing, new_editing}
use Rattle.w4_house.proofs.WorldLaws.{does_nothing, does_then, rises_later}
use Rattle.w4_answers.proofs.LiveAnswerEventLaws.{counted_nothing, counted_then, counted_took, fails_after}
use Rattle.w4_commands.proofs.ServeLineLaws.{served_line, served_none}

abbrev pub opened_on : CartFile → ServeWords → Played → Opened
opened_on cart words p = record { cart = cart.code; run = p; out = words.out }

-- a session on these files, over some lines
abbrev pub ServeStep : ServeWords → CartFile → Step
ServeStep words cart files output = (talk : Talk) × (serve_output words talk cart files ≡ Some output)

with_files : (words : ServeWords) (talk : Talk) (cart : CartFile) (p : Played) (files : Files)
    (output : Result Output Refusal) → run_files cart.digest words.run files ≡ Ok p
    → option_map Ok (served (opened_on cart words p) talk) ≡ Some output
    → serve_output words talk cart files ≡ Some output
unfolding serve_output
with_files words talk cart p files output read is =
    ap (λ found. making found (λ q. served (opened_on cart words q) talk)) read ∙ is

pub serve_made : {X : Type 0} (first second third : World) (words : ServeWords) (cart : CartFile) (p : Played)
    → LeavesReading first second → ForSome first.files (λ files. run_files cart.digest words.run files ≡ Ok p)
    → (result : Result X Refusal) → EndsDone second third result (ServedStep (opened_on cart words p))
    → EndsDone first third result (ServeStep words cart)
serve_made first second third words cart p leaves given result h =
    let inner = ServedStep (opened_on cart words p) in
    ends_as first third (finished result) inner (ServeStep words cart)
    (λ files told output made. (
      made.0,
      with_files words made.0 cart p files output (given files told)
          made.1,
    ))
    (ends_later first second third (finished result) inner leaves h)

without_files : (words : ServeWords) (talk : Talk) (cart : CartFile) (files : Files) (fault : Refusal)
    → run_files cart.digest words.run files ≡ Err fault → serve_output words talk cart files ≡ Some
    (Err fault)
unfolding serve_output
without_files words talk cart files fault none =
    ap (λ found. making found (λ q. served (opened_on cart words q) talk)) none

pub serve_unread : (old new : World) (words : ServeWords) (cart : CartFile) (why : Refusal)
    → LeavesReading old new
    → Stops old new (manner_of why) (ResultsIn (λ files. run_files cart.digest words.run files))
    → Ends old new (Err why) (ServeStep words cart)
serve_unread old new words cart why leaves h =
    let talk : Talk = record { lines = []; saves = [] } in
    ends_unread old new (ResultsIn (λ files. run_files cart.digest words.run files)) (ServeStep words cart)
    leaves
    (λ files fault none. (talk, without_files words talk cart files fault none)) why h

-- ---- what is left

pub serving_none : (world : World) → LeavesServing world world
serving_none world = record { err = refl; errs = refl; reads = omega arith; writes = omega arith }

pub serving_then : (first second third : World) → LeavesServing first second → LeavesServing second third
    → LeavesServing first third
serving_then first second third one next = record {
  err = next.err ∙ one.err;
  errs = next.errs ∙ one.errs;
  reads = let before = one.reads in let after = next.reads in omega arith;
  writes = let before = one.writes in let after = next.writes in omega arith;
}

pub taking_serves : (old new : World) → LeavesTaking old new → LeavesServing old new
taking_serves old new taking = record {
  err = taking.err;
  errs = taking.errs;
  reads = taking.later;
  writes = let same = taking.writes in omega arith;
}

-- ---- the opening

-- an editor that was opened on a recording sits at the session's beginning
pub opens : (o : Opened) (e : Editing) (state : State)
    → e ≡ new_editing o.cart o.run.font o.run.recording state → Sits o (first_live_session o) e None
opens o e state is =
    let new : Sits o (first_live_session o) (new_editing o.cart o.run.font o.run.recording state) None =
    record { session = refl; search = refl; setup = refl; disk = refl; recording = refl } in
    subst (λ (x : Editing). Sits o (first_live_session o) x None) (sym is) new

-- ---- lines

pub serves_none : (world : World) (o : Opened) → Serves world world o (first_live_session o)
serves_none world o = record {
  lines = [];
  saves = [];
  done = [];
  served = served_none o;
  does = counted_nothing world world (omega arith) (does_nothing world world refl refl);
}

-- a line was taken
module _ (old now mid new : World) (o : Opened) (s : LiveSession) (line : List ℕ)
    (serves : Serves old now o s)
    (leaves : LeavesTaking now mid) (taken : Does now mid (Took line ∷ [])) where
  -- and what it does was done, or so much of it
  took : (front : List Event) → Does mid new front → Does old new (serves.done ++ Took line ∷ front)
  took front after =
      does_then old now new serves.done (Took line ∷ front) serves.does.0
      (does_then now mid new (Took line ∷ []) front taken after)

  took_counted : (events : List Event) → DoesCounted mid new events
      → DoesCounted old new (serves.done ++ Took line ∷ events)
  took_counted events after =
      counted_then old now new serves.done (Took line ∷ events) serves.does
      (counted_then now mid new (Took line ∷ []) events (counted_took now mid line leaves taken) after)

  took_failing : (front : List Event) → FailsToWrite mid new front
      → FailsToWrite old new (serves.done ++ Took line ∷ front)
  took_failing front after =
      fails_after old now new serves.done (Took line ∷ front) serves.does
      (fails_after now mid new (Took line ∷ []) front (counted_took now mid line leaves taken) after)

  -- it was answered
  pub serves_line : (e : Editing) (search : Option Search) → LineAnswered mid new o s line e search
      → (next : LiveSession) × Serves old new o next × Sits o next e search
  serves_line e search (mine, events, next, step, does, sits) = (
    next,
    record {
      lines = serves.lines ++ line ∷ [];
      saves = serves.saves ++ mine;
      done = serves.done ++ Took line ∷ events;
      served = served_line o s next serves.lines serves.saves mine serves.done events line serves.served step;
      does = took_counted events does;
    },
    sits,
  )

  -- its answer stopped
  pub line_stopped : (why : Manner) (left : Recording) → LineStops mid new why o s line left
      → LinesStop old new why o left
  line_stopped ReadFailed left h = absurd h
  line_stopped InputFailed left h = absurd h
  line_stopped WriteFailed left (mine, events, next, step, front, is_front, fails, is) = (
    s,
    next,
    record {
      lines = serves.lines;
      saves = serves.saves;
      done = serves.done;
      served = serves.served;
      line = line;
      mine = mine;
      events = events;
      step = step;
      front = front;
      is_front = is_front;
      does = (took_failing front fails).0;
    },
    (took_failing front fails).1,
    is,
  )
  line_stopped MemoryRefused left (mine, events, next, step, front, is_front, does, is) = inr (inr (
    s,
    next,
    record {
      lines = serves.lines;
      saves = serves.saves;
      done = serves.done;
      served = serves.served;
      line = line;
      mine = mine;
      events = events;
      step = step;
      front = front;
      is_front = is_front;
      does = took front does;
    },
    is,
  ))
  line_stopped (Refused why) left h = absurd h

-- no line was taken
module _ (old now new : World) (o : Opened) (s : LiveSession) (serves : Serves old now o s)
    (leaves : LeavesTaking now new) where
  one_more : (last : Event) → Does now new (last ∷ []) → ServesThen old new o s last
  one_more last does = record {
    lines = serves.lines;
    saves = serves.saves;
    done = serves.done;
    served = serves.served;
    does = does_then old now new serves.done (last ∷ []) serves.does.0 does;
  }

  pub lines_ended : Does now new (InputEnded ∷ []) → ServesThen old new o s InputEnded
  lines_ended ended = one_more InputEnded ended

  pub lines_lost : (why : Manner) (left : Recording) → left ≡ recording_left o s
      → old.read_faults ≤ now.read_faults → LosesLine now new why → LinesStop old new why o left
  lines_lost ReadFailed left is later h = absurd h
  lines_lost InputFailed left is later (rise, lost) = (
    rises_later old.read_faults now.read_faults new.read_faults later rise,
    s,
    one_more InputLost lost,
    is,
  )
  lines_lost WriteFailed left is later h = absurd h
  lines_lost MemoryRefused left is later (inr lost) = inr (inl (s, one_more InputLost lost, is))
  lines_lost MemoryRefused left is later (inl none) = inl (
    s,
    record {
      lines = serves.lines;
      saves = serves.saves;
      done = serves.done;
      served = serves.served;
      does = subst (DoesCounted old new) (append-nil serves.done)
          (counted_then old now new serves.done [] serves.does
          (counted_nothing now new (omega (arith, leaves.writes)) none));
    },
    is,
  )
  lines_lost (Refused why) left is later h = absurd h
