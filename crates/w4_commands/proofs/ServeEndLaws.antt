-- How a live session ends, once its lines have ended or stopped and the recording left was saved or not.
use Rattle.std.proofs.Common.{◌≡◌, ◌⊎◌, ◌+◌, ◌≤◌, ◌<◌, ℕ, inl, inr, List, [], ◌∷◌, ◌++◌, length, take, Some}
use Rattle.std.proofs.Common.{option_map, Result, Ok, Err, refl, sym, ap, subst, ◌∙◌, append_assoc, arith}
use Rattle.std.proofs.Math.Seq.{take-append_seam, take-length}
use Rattle.std.proofs.lemmas.List.{append-nil, length-append}
use Rattle.std.specs.Prelude.{slice_get}
use Rattle.w4_defs.specs.declared.status.Refusal.{Refusal}
use Rattle.w4_defs.specs.declared.status.Refusal.TheVariants as refusal
use Rattle.w4_defs.specs.Causes.{Ends, EndsRefused, IsShort, LosesInput, RunsOutAfter, WantsInput, WritesPart}
use Rattle.w4_defs.specs.Causes.{stopped_events}
use Rattle.w4_defs.specs.Endings.{Manner, ReadFailed, InputFailed, WriteFailed, MemoryRefused, Refused}
use Rattle.w4_defs.specs.Endings.{manner_of}
use Rattle.w4_defs.specs.Live.{LiveSession, Opened, SaveEnd, Talk, recording_left, saving, saving_after}
use Rattle.w4_defs.specs.Live.{serve_result, taken_lines}
use Rattle.w4_defs.specs.Output.{Output, all_events}
use Rattle.w4_defs.specs.Recording.{Recording, encoding}
use Rattle.w4_defs.specs.World.{Event, Took, InputEnded, InputLost, Saved, NotSaved, Files, World, Rises}
use Rattle.w4_defs.specs.World.{Does, FailsToSave, OutFails, LeavesSaving, not_saved}
use Rattle.w4_commands.specs.Commands.{EndsDone}
use Rattle.w4_answers.specs.Saving.{Replaces, StopsSaving}
use Rattle.w4_commands.specs.Serve.{EndsStopped, HasServed, ServedStep, stop_refusal, LinesStop, Serves}
use Rattle.w4_commands.specs.Serve.{ServesPart, ServesThen}
use Rattle.w4_answers.specs.LiveAnswer.{LeavesEither}
use Rattle.w4_house.proofs.WorldLaws.{does_then, rises_later, rises_on}
use Rattle.w4_answers.proofs.LiveAnswerEventLaws.{out_fails_not_saved, out_fails_saved, out_rises}
use Rattle.w4_commands.proofs.ServeMemoryLaws.{ran_out, ran_out_lost, ran_out_lost_saved, ran_out_saved}
use Rattle.w4_commands.proofs.ServeLineLaws.{saving_is, served_is, served_line, talk_of, taken-append}

-- ---- parts of an output

-- so many events of those that stand in front
front_part : (front behind : List Event) → take (length front) (front ++ behind) ≡ front
front_part front behind = take-append_seam front behind

next_event : (front : List Event) (event : Event) → slice_get (front ++ event ∷ []) (length front)
    ≡ Some event
next_event [] event = refl
next_event (one ∷ front) event = next_event front event

longer : (front behind : List Event) (event : Event) → length front < length ((front ++ behind) ++ event ∷ [])
longer front behind event =
    omega (arith, length-append (front ++ behind) (event ∷ []), length-append front behind)

-- the events of a session that has served its lines
module _ (o : Opened) (s : LiveSession) (lines : List (List ℕ)) (saves : List SaveEnd) (done : List Event)
    (h : HasServed o lines saves done s) where
  abbrev pub talk : Talk
  talk = talk_of lines saves

  abbrev pub output : Output
  output = serve_result o talk done

  made : (files : Files) → ServedStep o files (Ok output)
  made files = (talk, ap (option_map Ok) (served_is o s lines saves done h))

  at_end : output.saved ≡ saving o s
  at_end = saving_is o s lines saves done h

  -- what is saved after a first part that takes all lines
  rescued_all : (front behind : List Event) → output.events ≡ front ++ behind → taken_lines front ≡ lines
      → output.rescued (length front) ≡ saving o s
  rescued_all front behind is taken =
      ap (λ events. saving_after o (taken_lines (take (length front) events))) is
      ∙ ap (λ events. saving_after o (taken_lines events)) (front_part front behind)
      ∙ ap (saving_after o) taken
      ∙ saving_is o s lines saves done h

-- ---- events, and then a file that was saved or not

fails_then : (old mid new : World) (events saved : List Event) → Does old mid events
    → FailsToSave mid new [] saved → FailsToSave old new events saved
fails_then old mid new events saved does (inl fails) =
    inl (does_then old mid new events (not_saved saved) does fails)
fails_then old mid new events saved does (inr fails) =
    inr (subst (Does old new) (sym (append_assoc events saved (not_saved saved)))
    (does_then old mid new events (saved ++ not_saved saved) does fails))

-- the recording left goes to OUT
replaced : (o : Opened) (s : LiveSession) (left : Recording) → left ≡ recording_left o s
    → Saved o.out (encoding 2 left) ∷ [] ≡ saving o s
replaced o s left is = ap (λ (r : Recording). Saved o.out (encoding 2 r) ∷ []) is

saved_as : (mid new : World) (some other : List Event) → some ≡ other → Does mid new some → Does mid new other
saved_as mid new some other is does = subst (Does mid new) is does

fails_as : (mid new : World) (some other : List Event) → some ≡ other → FailsToSave mid new [] some
    → FailsToSave mid new [] other
fails_as mid new some other is fails = subst (FailsToSave mid new []) is fails

-- ---- all lines were answered, and then one more event happened

module _ (o : Opened) (s : LiveSession) (old mid new : World) (left : Recording)
    (is : left ≡ recording_left o s) where
  abbrev pub name : List ℕ
  name = o.out

  abbrev pub bytes : List ℕ
  bytes = encoding 2 left

  same : Saved name bytes ∷ [] ≡ saving o s
  same = replaced o s left is

  module _ (lines : List (List ℕ)) (saves : List SaveEnd) (done : List Event)
      (h : HasServed o lines saves done s) where
    abbrev pub whole : Output
    whole = output o s lines saves done h

    saved_is : Saved name bytes ∷ [] ≡ whole.saved
    saved_is = same ∙ sym (at_end o s lines saves done h)

    -- the input ended
    ended_saved : Does old mid (done ++ InputEnded ∷ []) → Does mid new (Saved name bytes ∷ [])
        → Does old new (all_events whole)
    ended_saved does saved = does_then old mid new (done ++ InputEnded ∷ []) whole.saved does
        (saved_as mid new (Saved name bytes ∷ []) whole.saved saved_is saved)

    ended_failed : Does old mid (done ++ InputEnded ∷ []) → FailsToSave mid new [] (Saved name bytes ∷ [])
        → WritesPart old new whole
    ended_failed does fails = inr (inr (fails_then old mid new (done ++ InputEnded ∷ []) whole.saved does
        (fails_as mid new (Saved name bytes ∷ []) whole.saved saved_is fails)))

    ended_ran_out : Does old mid (done ++ InputEnded ∷ []) → Does mid new []
        → (count : ℕ) × RunsOutAfter old new whole count
    ended_ran_out does none =
        let events = done ++ InputEnded ∷ [] in (
          length events,
          ran_out old new whole (length events)
              (subst (Does old new) (append-nil events ∙ sym (take-length events))
              (does_then old mid new events [] does none)),
        )

    -- the recording is saved that all lines leave
    rescue_is : whole.rescued (length done) ≡ Saved name bytes ∷ []
    rescue_is = rescued_all o s lines saves done h done (InputEnded ∷ []) refl h.taken ∙ sym same

    front_is : take (length done) whole.events ≡ done
    front_is = front_part done (InputEnded ∷ [])

    wants : WantsInput (slice_get whole.events (length done))
    wants = subst WantsInput (sym (next_event done InputEnded)) tt

    -- what was read of a line is lost
    does_lost : Does old mid (done ++ InputLost ∷ [])
        → Does old mid (take (length done) whole.events ++ InputLost ∷ [])
    does_lost does = subst (λ events. Does old mid (events ++ InputLost ∷ [])) (sym front_is) does

    -- since a read of the input failed
    lost_saved : Does old mid (done ++ InputLost ∷ []) → Does mid new (Saved name bytes ∷ [])
        → LosesInput old new whole
    lost_saved does saved = (
      length done,
      wants,
      subst (Does old new) (append_assoc done (InputLost ∷ []) (Saved name bytes ∷ [])
          ∙ ap (λ events. events ++ InputLost ∷ Saved name bytes ∷ []) (sym front_is)
          ∙ ap (λ events. take (length done) whole.events ++ InputLost ∷ events) (sym rescue_is))
          (does_then old mid new (done ++ InputLost ∷ []) (Saved name bytes ∷ []) does saved),
    )

    lost_failed : Rises old.read_faults new.read_faults → Does old mid (done ++ InputLost ∷ [])
        → FailsToSave mid new [] (Saved name bytes ∷ []) → WritesPart old new whole
    lost_failed rise does fails = inr (inl (
      length done,
      wants,
      rise,
      fails_then old mid new (take (length done) whole.events ++ InputLost ∷ []) (whole.rescued (length done))
          (does_lost does)
          (fails_as mid new (Saved name bytes ∷ []) (whole.rescued (length done)) (sym rescue_is) fails),
    ))

    lost_ran_out : Does old mid (done ++ InputLost ∷ []) → Does mid new []
        → (count : ℕ) × RunsOutAfter old new whole count
    lost_ran_out does none = (
      length done,
      ran_out_lost old new whole (length done) wants
          (subst (Does old new) (append-nil (done ++ InputLost ∷ [])
          ∙ ap (λ events. events ++ InputLost ∷ []) (sym front_is))
          (does_then old mid new (done ++ InputLost ∷ []) [] does none)),
    )

    -- memory had run out for a line of which a part was read
    lost_out_by : Does old mid (done ++ InputLost ∷ []) → (why : Manner) → StopsSaving mid new why name bytes
        → (count : ℕ) × RunsOutAfter old new whole count
    lost_out_by does ReadFailed h = absurd h
    lost_out_by does InputFailed h = absurd h
    lost_out_by does WriteFailed (rise, fails) = (
      length done,
      ran_out_lost_saved old new whole (length done) wants (inr
          (fails_then old mid new (take (length done) whole.events ++ InputLost ∷ [])
          (whole.rescued (length done))
          (does_lost does)
          (fails_as mid new (Saved name bytes ∷ []) (whole.rescued (length done)) (sym rescue_is) fails))),
    )
    lost_out_by does MemoryRefused h = lost_ran_out does h
    lost_out_by does (Refused why) h = absurd h

    lost_out : {X : Type 0} → Does old mid (done ++ InputLost ∷ []) → (result : Result X Refusal)
        → Replaces mid new result name bytes → (count : ℕ) × RunsOutAfter old new whole count
    lost_out does (Ok x) saved = (
      length done,
      ran_out_lost_saved old new whole (length done) wants (inl
          (does_then old mid new (take (length done) whole.events ++ InputLost ∷ [])
          (whole.rescued (length done))
          (does_lost does)
          (saved_as mid new (Saved name bytes ∷ []) (whole.rescued (length done)) (sym rescue_is) saved))),
    )
    lost_out does (Err why) h = lost_out_by does (manner_of why) h

-- ---- a first part of a session's events was done that took all its lines

module _ (o : Opened) (s : LiveSession) (lines : List (List ℕ)) (saves : List SaveEnd) (done : List Event)
    (h : HasServed o lines saves done s) (front behind : List Event) (is_done : done ≡ front ++ behind)
    (takes : taken_lines front ≡ lines) (old mid new : World) (does : Does old mid front) where
  abbrev pub part_whole : Output
  part_whole = output o s lines saves done h

  events_are : part_whole.events ≡ front ++ (behind ++ InputEnded ∷ [])
  events_are = ap (λ events. events ++ InputEnded ∷ []) is_done ∙ append_assoc front behind (InputEnded ∷ [])

  part_front : take (length front) part_whole.events ≡ front
  part_front = ap (take (length front)) events_are ∙ front_part front (behind ++ InputEnded ∷ [])

  part_rescue : part_whole.rescued (length front) ≡ saving o s
  part_rescue = rescued_all o s lines saves done h front (behind ++ InputEnded ∷ []) events_are takes

  does_front : Does old mid (take (length front) part_whole.events)
  does_front = subst (Does old mid) (sym part_front) does

  short : IsShort part_whole (length front)
  short = inl (subst (λ events. length front < length (events ++ InputEnded ∷ [])) (sym is_done)
      (longer front behind InputEnded))

  -- a write to standard output had failed, and then the recording was saved or not
  stopped_is : stopped_events part_whole (length front) ≡ front ++ saving o s
  stopped_is = ap (λ events. events ++ part_whole.rescued (length front)) part_front
      ∙ ap (λ events. front ++ events) part_rescue

  saved_out_fails : OutFails old mid front → mid.write_faults ≤ new.write_faults
      → OutFails old new (stopped_events part_whole (length front))
  saved_out_fails fails later = subst (OutFails old new) (sym stopped_is)
      (out_fails_saved old mid new front o.out (encoding 2 (recording_left o s)) fails later)

  unsaved_is : take (length front) part_whole.events ++ not_saved (part_whole.rescued (length front))
      ≡ front ++ NotSaved o.out ∷ []
  unsaved_is = ap (λ events. events ++ not_saved (part_whole.rescued (length front))) part_front
      ∙ ap (λ events. front ++ not_saved events) part_rescue

  unsaved_out_fails : OutFails old mid front → Rises mid.write_faults new.write_faults
      → OutFails old new (take (length front) part_whole.events ++ not_saved
      (part_whole.rescued (length front)))
  unsaved_out_fails fails rise = subst (OutFails old new) (sym unsaved_is)
      (out_fails_not_saved old mid new front o.out fails rise)

  part_saved : Does mid new (saving o s) → Does old new (stopped_events part_whole (length front))
  part_saved saved =
      does_then old mid new (take (length front) part_whole.events) (part_whole.rescued (length front))
      does_front
      (subst (Does mid new) (sym part_rescue) saved)

  part_failed : FailsToSave mid new [] (saving o s)
      → FailsToSave old new (take (length front) part_whole.events) (part_whole.rescued (length front))
  part_failed fails =
      fails_then old mid new (take (length front) part_whole.events) (part_whole.rescued (length front))
      does_front
      (subst (FailsToSave mid new []) (sym part_rescue) fails)

  part_ran_out : Does mid new [] → (count : ℕ) × RunsOutAfter old new part_whole count
  part_ran_out none = (
    length front,
    ran_out old new part_whole (length front) (subst (Does old new)
        (append-nil (take (length front) part_whole.events))
        (does_then old mid new (take (length front) part_whole.events) [] does_front none)),
  )

  -- memory had run out, and the recording was saved or not that is left after so many of the events
  module _ (left : Recording) (r : LiveSession) (before : ℕ)
      (near : (before ≡ length front) ⊎ (before + 1 ≡ length front))
      (rescue : part_whole.rescued before ≡ saving o r) (is : left ≡ recording_left o r) where
    saves_it : Saved o.out (encoding 2 left) ∷ [] ≡ part_whole.rescued before
    saves_it = replaced o r left is ∙ sym rescue

    abbrev pub front_events : List Event
    front_events = take (length front) part_whole.events

    still_out_by : (why : Manner) → StopsSaving mid new why o.out (encoding 2 left)
        → RunsOutAfter old new part_whole (length front)
    still_out_by ReadFailed h = absurd h
    still_out_by InputFailed h = absurd h
    still_out_by WriteFailed (rise, fails) = ran_out_saved old new part_whole (length front) before near
        (inr (fails_then old mid new front_events (part_whole.rescued before) does_front
        (fails_as mid new (Saved o.out (encoding 2 left) ∷ []) (part_whole.rescued before) saves_it fails)))
    still_out_by MemoryRefused h = ran_out old new part_whole (length front)
        (subst (Does old new) (append-nil front_events) (does_then old mid new front_events [] does_front h))
    still_out_by (Refused why) h = absurd h

    pub still_out : {X : Type 0} (result : Result X Refusal) → Replaces mid new result o.out (encoding 2 left)
        → RunsOutAfter old new part_whole (length front)
    still_out (Ok x) h = ran_out_saved old new part_whole (length front) before near
        (inl (does_then old mid new front_events (part_whole.rescued before) does_front
        (saved_as mid new (Saved o.out (encoding 2 left) ∷ []) (part_whole.rescued before) saves_it h)))
    still_out (Err why) h = still_out_by (manner_of why) h

-- ---- how the whole ended

-- the events of a line whose first part was done
step_front : (o : Opened) (s next : LiveSession) (lines : List (List ℕ)) (saves : List SaveEnd)
    (done : List Event) (line : List ℕ) (mine : List SaveEnd) (events front behind : List Event)
    → events ≡ front ++ behind → done ++ Took line ∷ events ≡ (done ++ Took line ∷ front) ++ behind
step_front o s next lines saves done line mine events front behind is =
    ap (λ rest. done ++ Took line ∷ rest) is ∙ sym (append_assoc done (Took line ∷ front) behind)

no_line : (some more : List (List ℕ)) → some ++ more ≡ [] → some ≡ []
no_line [] more e = refl
no_line (line ∷ some) more e = absurd cc

front_takes : (events front behind : List Event) → events ≡ front ++ behind → taken_lines events ≡ []
    → taken_lines front ≡ []
front_takes events front behind is none = no_line (taken_lines front) (taken_lines behind)
    (sym (taken-append front behind) ∙ ap taken_lines (sym is) ∙ none)

part_takes : (done front : List Event) (lines : List (List ℕ)) (line : List ℕ) → taken_lines done ≡ lines
    → taken_lines front ≡ [] → taken_lines (done ++ Took line ∷ front) ≡ lines ++ line ∷ []
part_takes done front lines line taken none =
    taken-append done (Took line ∷ front)
    ∙ ap (λ before. before ++ line ∷ taken_lines front) taken
    ∙ ap (λ rest. lines ++ line ∷ rest) none

module _ (o : Opened) (old mid new : World) (left : Recording) (rest : LeavesSaving mid new) where
  abbrev pub Bytes : List ℕ
  Bytes = encoding 2 left

  -- the input ended, and the recording left was saved or not
  ended_stopped : (s : LiveSession) (then : ServesThen old mid o s InputEnded) → left ≡ recording_left o s
      → old.write_faults ≤ mid.write_faults → (why : Manner) → StopsSaving mid new why o.out Bytes
      → EndsRefused old new why (ServedStep o)
  ended_stopped s then is later ReadFailed h = absurd h
  ended_stopped s then is later InputFailed h = absurd h
  ended_stopped s then is later WriteFailed (rise, fails) = (
    rises_later old.write_faults mid.write_faults new.write_faults later rise,
    λ files told. (
      output o s then.lines then.saves then.done then.served,
      made o s then.lines then.saves then.done then.served files,
      ended_failed o s old mid new left is then.lines then.saves then.done then.served then.does fails,
    ),
  )
  ended_stopped s then is later MemoryRefused h = inr (λ files told.
      let out = ended_ran_out o s old mid new left is then.lines then.saves then.done then.served then.does h
      in (
        output o s then.lines then.saves then.done then.served,
        made o s then.lines then.saves then.done then.served files,
        out.0,
        out.1,
      ))
  ended_stopped s then is later (Refused why) h = absurd h

  pub serve_ended : {X : Type 0} (s : LiveSession) (then : ServesThen old mid o s InputEnded)
      → left ≡ recording_left o s
      → old.write_faults ≤ mid.write_faults → (result : Result X Refusal)
      → Replaces mid new result o.out Bytes → EndsDone old new result (ServedStep o)
  serve_ended s then is later (Ok x) h = λ files told. (
    output o s then.lines then.saves then.done then.served,
    made o s then.lines then.saves then.done then.served files,
    refl,
    ended_saved o s old mid new left is then.lines then.saves then.done then.served then.does h,
  )
  serve_ended s then is later (Err why) h = ended_stopped s then is later (manner_of why) h

  -- a read of the input failed
  reads_rose : Rises old.read_faults mid.read_faults → Rises old.read_faults new.read_faults
  reads_rose lost = subst (Rises old.read_faults) (sym rest.reads) lost

  lost_stopped : (s : LiveSession) (then : ServesThen old mid o s InputLost) → left ≡ recording_left o s
      → Rises old.read_faults mid.read_faults → old.write_faults ≤ mid.write_faults → (why : Manner)
      → StopsSaving mid new why o.out Bytes → EndsRefused old new why (ServedStep o)
  lost_stopped s then is lost later ReadFailed h = absurd h
  lost_stopped s then is lost later InputFailed h = absurd h
  lost_stopped s then is lost later WriteFailed (rise, fails) = (
    rises_later old.write_faults mid.write_faults new.write_faults later rise,
    λ files told. (
      output o s then.lines then.saves then.done then.served,
      made o s then.lines then.saves then.done then.served files,
      lost_failed o s old mid new left is then.lines then.saves then.done then.served (reads_rose lost)
          then.does
          fails,
    ),
  )
  lost_stopped s then is lost later MemoryRefused h = inr (λ files told.
      let out = lost_ran_out o s old mid new left is then.lines then.saves then.done then.served then.does h
      in (
        output o s then.lines then.saves then.done then.served,
        made o s then.lines then.saves then.done then.served files,
        out.0,
        out.1,
      ))
  lost_stopped s then is lost later (Refused why) h = absurd h

  lost_saved_too : (s : LiveSession) (then : ServesThen old mid o s InputLost) → left ≡ recording_left o s
      → Rises old.read_faults mid.read_faults → Does mid new (Saved o.out Bytes ∷ [])
      → EndsRefused old new InputFailed (ServedStep o)
  lost_saved_too s then is rise h = (
    reads_rose rise,
    λ files told. (
      output o s then.lines then.saves then.done then.served,
      made o s then.lines then.saves then.done then.served files,
      lost_saved o s old mid new left is then.lines then.saves then.done then.served then.does h,
    ),
  )

  -- the answer of a line stopped, and what the line does was done in part
  module _ (s next : LiveSession) (part : ServesPart old mid o s next) where
    abbrev pub part_lines : List (List ℕ)
    part_lines = part.lines ++ part.line ∷ []

    abbrev pub part_saves : List SaveEnd
    part_saves = part.saves ++ part.mine

    abbrev pub part_done : List Event
    part_done = part.done ++ Took part.line ∷ part.events

    pub part_served : HasServed o part_lines part_saves part_done next
    part_served = served_line o s next part.lines part.saves part.mine part.done part.events part.line
        part.served
        part.step

    abbrev pub part_events : List Event
    part_events = part.done ++ Took part.line ∷ part.front

    pub events_behind : part_done ≡ part_events ++ part.is_front.0
    events_behind = step_front o s next part.lines part.saves part.done part.line part.mine part.events
        part.front
        part.is_front.0 part.is_front.1

    pub takes_all : taken_lines part_events ≡ part_lines
    takes_all = part_takes part.done part.front part.lines part.line part.served.taken
        (front_takes part.events part.front part.is_front.0 part.is_front.1 part.step.untaken)

    abbrev pub part_output : Output
    part_output = part_whole o next part_lines part_saves part_done part_served part_events part.is_front.0
        events_behind takes_all old mid new part.does

    part_made : (files : Files) → ServedStep o files (Ok part_output)
    part_made files = made o next part_lines part_saves part_done part_served files

    part_stopped : left ≡ recording_left o next → OutFails old mid part_events
        → old.write_faults ≤ mid.write_faults → (why : Manner)
        → StopsSaving mid new why o.out Bytes → EndsRefused old new why (ServedStep o)
    part_stopped is out later ReadFailed h = absurd h
    part_stopped is out later InputFailed h = absurd h
    part_stopped is out later WriteFailed (rise, fails) = (
      rises_later old.write_faults mid.write_faults new.write_faults later rise,
      λ files told. (
        part_output,
        part_made files,
        inl (
          length part_events,
          short o next part_lines part_saves part_done part_served part_events part.is_front.0 events_behind
              takes_all old mid new part.does,
          inr (
            part_failed o next part_lines part_saves part_done part_served part_events part.is_front.0
                events_behind takes_all old mid new part.does
                (fails_as mid new (Saved o.out Bytes ∷ []) (saving o next) (replaced o next left is) fails),
            unsaved_out_fails o next part_lines part_saves part_done part_served part_events part.is_front.0
                events_behind takes_all old mid new part.does out rise,
          ),
        ),
      ),
    )
    part_stopped is out later MemoryRefused h = inr (λ files told.
        let out = part_ran_out o next part_lines part_saves part_done part_served part_events part.is_front.0
        events_behind takes_all old mid new part.does h in
        (part_output, part_made files, out.0, out.1))
    part_stopped is out later (Refused why) h = absurd h

    part_saved_too : left ≡ recording_left o next → OutFails old mid part_events
        → Does mid new (Saved o.out Bytes ∷ []) → EndsRefused old new WriteFailed (ServedStep o)
    part_saved_too is out h = (
      rises_on old.write_faults mid.write_faults new.write_faults (out_rises old mid part_events out)
          rest.later,
      λ files told. (
        part_output,
        part_made files,
        inl (
          length part_events,
          short o next part_lines part_saves part_done part_served part_events part.is_front.0 events_behind
              takes_all old mid new part.does,
          inl (
            part_saved o next part_lines part_saves part_done part_served part_events part.is_front.0
                events_behind takes_all old mid new part.does
                (saved_as mid new (Saved o.out Bytes ∷ []) (saving o next) (replaced o next left is) h),
            saved_out_fails o next part_lines part_saves part_done part_served part_events part.is_front.0
                events_behind takes_all old mid new part.does out rest.later,
          ),
        ),
      ),
    )

    -- memory had run out within the answer
    part_out : {X : Type 0} → left ≡ recording_left o next → (result : Result X Refusal)
        → Replaces mid new result o.out Bytes → EndsRefused old new MemoryRefused (ServedStep o)
    part_out is result h = inr (λ files told. (
      part_output,
      part_made files,
      length part_events,
      still_out o next part_lines part_saves part_done part_served part_events part.is_front.0 events_behind
          takes_all old mid new part.does left next (length part_events) (inl refl)
          (part_rescue o next part_lines part_saves part_done part_served part_events part.is_front.0
          events_behind takes_all old mid new part.does) is result h,
    ))

    -- or before anything of it was done, so that the edit that was asked for wasn't made
    module _ (none : part.front ≡ []) where
      one_more : length part.done + 1 ≡ length part_events
      one_more =
          sym (length-append part.done (Took part.line ∷ []))
          ∙ ap (λ front. length (part.done ++ Took part.line ∷ front)) (sym none)

      before_rescue : part_output.rescued (length part.done) ≡ saving o s
      before_rescue =
          ap (λ events. saving_after o (taken_lines (take (length part.done) events)))
          (append_assoc part.done (Took part.line ∷ part.events) (InputEnded ∷ []))
          ∙ ap (λ events. saving_after o (taken_lines events))
          (front_part part.done (Took part.line ∷ part.events ++ InputEnded ∷ []))
          ∙ ap (saving_after o) part.served.taken
          ∙ saving_is o s part.lines part.saves part.done part.served

      unmade_out : {X : Type 0} → left ≡ recording_left o s → (result : Result X Refusal)
          → Replaces mid new result o.out Bytes → EndsRefused old new MemoryRefused (ServedStep o)
      unmade_out is result h = inr (λ files told. (
        part_output,
        part_made files,
        length part_events,
        still_out o next part_lines part_saves part_done part_served part_events part.is_front.0 events_behind
            takes_all old mid new part.does left s (length part.done) (inr one_more) before_rescue is result
            h,
      ))

  -- memory had run out where a line was wanted
  between_out : {X : Type 0} (s : LiveSession) (serves : Serves old mid o s) → left ≡ recording_left o s
      → (result : Result X Refusal) → Replaces mid new result o.out Bytes
      → EndsRefused old new MemoryRefused (ServedStep o)
  between_out s serves is result h =
      let done = serves.done in
      let is_done = sym (append-nil done) in
      inr (λ files told. (
        output o s serves.lines serves.saves done serves.served,
        made o s serves.lines serves.saves done serves.served files,
        length done,
        still_out o s serves.lines serves.saves done serves.served done [] is_done serves.served.taken old mid
            new
            serves.does.0 left s (length done) (inl refl)
            (part_rescue o s serves.lines serves.saves done serves.served done [] is_done serves.served.taken
            old
            mid new serves.does.0) is result h,
      ))

  -- or for a line of which a part was read
  within_out : {X : Type 0} (s : LiveSession) (then : ServesThen old mid o s InputLost)
      → left ≡ recording_left o s → (result : Result X Refusal) → Replaces mid new result o.out Bytes
      → EndsRefused old new MemoryRefused (ServedStep o)
  within_out s then is result h = inr (λ files told.
      let out = lost_out o s old mid new left is then.lines then.saves then.done then.served then.does result
      h in (
        output o s then.lines then.saves then.done then.served,
        made o s then.lines then.saves then.done then.served files,
        out.0,
        out.1,
      ))

  either_out : {X : Type 0} (s next : LiveSession) (part : ServesPart old mid o s next)
      → LeavesEither o s next part.front left → (result : Result X Refusal)
      → Replaces mid new result o.out Bytes → EndsRefused old new MemoryRefused (ServedStep o)
  either_out s next part (inl is) result h = part_out s next part is result h
  either_out s next part (inr (none, is)) result h = unmade_out s next part none is result h

  out_by : {X : Type 0} → LinesStop old mid MemoryRefused o left → (result : Result X Refusal)
      → Replaces mid new result o.out Bytes → EndsRefused old new MemoryRefused (ServedStep o)
  out_by (inl (s, serves, is)) result h = between_out s serves is result h
  out_by (inr (inl (s, then, is))) result h = within_out s then is result h
  out_by (inr (inr (s, next, part, either))) result h = either_out s next part either result h

  -- the lines stopped, and then the recording left was saved or not
  pub serve_stopped : {X : Type 0} (why : Refusal) → LinesStop old mid (manner_of why) o left
      → old.write_faults ≤ mid.write_faults → (result : Result X Refusal)
      → Replaces mid new result o.out Bytes → Ends old new (Err (stop_refusal why result)) (ServedStep o)
  serve_stopped (refusal.CartRefused kind) stop later result h = absurd stop
  serve_stopped (refusal.RecordingRefused kind) stop later result h = absurd stop
  serve_stopped refusal.FontRefused stop later result h = absurd stop
  serve_stopped (refusal.ScriptRefused kind) stop later result h = absurd stop
  serve_stopped (refusal.ListRefused kind) stop later result h = absurd stop
  serve_stopped (refusal.FrameRefused number n) stop later result h = absurd stop
  serve_stopped refusal.ReadFault stop later result h = absurd stop
  serve_stopped refusal.InputFault (rise, s, then, is) later (Ok x) h = lost_saved_too s then is rise h
  serve_stopped refusal.InputFault (rise, s, then, is) later (Err fault) h =
      lost_stopped s then is rise later (manner_of fault) h
  serve_stopped refusal.WriteFault (s, next, part, out, is) later (Ok x) h =
      part_saved_too s next part is out h
  serve_stopped refusal.WriteFault (s, next, part, out, is) later (Err fault) h =
      part_stopped s next part is out later (manner_of fault) h
  serve_stopped refusal.OutOfMemory stop later result h = out_by stop result h

  pub stopped_ends : {X : Type 0} (why : Refusal) → LinesStop old mid (manner_of why) o left
      → old.write_faults ≤ mid.write_faults → (result : Result X Refusal)
      → EndsStopped mid new result o.out Bytes why → EndsDone old new result (ServedStep o)
  stopped_ends why stop later (Ok x) h = absurd h
  stopped_ends why stop later (Err ended) (saved, replaces, is) =
      subst (λ (r : Refusal). Ends old new (Err r) (ServedStep o)) (sym is)
      (serve_stopped why stop later saved replaces)
