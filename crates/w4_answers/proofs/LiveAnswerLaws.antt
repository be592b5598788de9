-- The answer of one line of a live session, from its pieces and its end to the line's step.
use Rattle.std.proofs.Common.{◌≡◌, ◌≢◌, ◌⊎◌, ◌≤◌, ℕ, zero, suc, inl, inr, true, false, List, [], ◌∷◌, ◌++◌}
use Rattle.std.proofs.Common.{drop, take, take-append-drop, Option, Some, None, refl, sym, ap, subst, ◌∙◌}
use Rattle.std.proofs.Common.{append_assoc, append-nil, arith}
use Rattle.std.specs.Prelude.{Result, Ok, Err, OnOk, IsSome, ⊤}
use Rattle.std.specs.Option.{ForSome}
use Rattle.w4_defs.specs.declared.editing.EditRefusal.{EditRefusal}
use Rattle.w4_defs.specs.declared.inspect.Ask.{Ask}
use Rattle.w4_defs.specs.declared.live.LiveOrder.{LiveOrder}
use Rattle.w4_defs.specs.declared.live.LiveOrder.TheVariants as live
use Rattle.w4_defs.specs.declared.order.Order.{Order}
use Rattle.w4_defs.specs.declared.order.Order.TheVariants as order
use Rattle.w4_defs.specs.declared.status.Refusal.{Refusal}
use Rattle.w4_defs.specs.declared.status.Refusal.TheVariants as refusal
use Rattle.w4_defs.specs.Answers.{Answered, answer_text, carried_out}
use Rattle.w4_defs.specs.Endings.{Manner, ReadFailed, InputFailed, WriteFailed, MemoryRefused}
use Rattle.w4_defs.specs.Endings.{Refused as RefusedFor, manner_of}
use Rattle.w4_defs.specs.Live.{Asked, AsksNothing, NoOrder, Asks, LiveSession, Opened, SaveEnd, Replaced}
use Rattle.w4_defs.specs.Live.{Refused, RefusedLate, answer_end, answer_step, asked_of, framed, line_step}
use Rattle.w4_defs.specs.Live.{live_answer, recording_left, refused_save, save_events, taken_lines}
use Rattle.w4_defs.specs.Meaning.{RunsHaveMeaning}
use Rattle.w4_defs.specs.Output.{run_setup}
use Rattle.w4_defs.specs.PlaceTexts.{PieceForm}
use Rattle.w4_defs.specs.QueryAnswers.{pages_of, ram_answer}
use Rattle.w4_defs.specs.Recording.{Recording, encoding}
use Rattle.w4_defs.specs.Reset.{Setup}
use Rattle.w4_defs.specs.ScriptAnswers.{answer, answer_change}
use Rattle.w4_defs.specs.Search.{Search}
use Rattle.w4_defs.specs.Session.{Session}
use Rattle.w4_defs.specs.World.{Event, Saved, NotSaved, World, Does, LeavesSaving, LeavesWriting, wrote}
use Rattle.w4_defs.proofs.LiveThereLaws.{live_answer_there}
use Rattle.w4_house.proofs.WorldLaws.{does_then, does_wrote, wrote-append}
use Rattle.w4_editor.specs.Editor.{Editing, current_recording, editing_setup, KeepsRest, place_session}
use Rattle.w4_answers.specs.Writing.{AppendsOut, StopsWriting, Written}
use Rattle.w4_answers.specs.Saving.{StopsSaving}
use Rattle.w4_answers.specs.LiveAnswer.{AnswersSave, Done, GivesPieces, LeavesLive, StopsDoing, asked_answer}
use Rattle.w4_answers.specs.LiveAnswer.{asks_save, AnswersLine, DoesCounted, IsFront, LeavesServing}
use Rattle.w4_answers.specs.LiveAnswer.{LineStops, Sits, StepsTo}
use Rattle.w4_answers.specs.OwnAnswer.{IsOwn}
use Rattle.w4_answers.specs.RamAnswers.{GivesLineAnswer, ask_answer}
use Rattle.w4_answers.specs.ScriptAnswers.{GivesAnswer, LeavesRecording, answer_by}
use Rattle.w4_answers.specs.Desk.{OnlyShows}
use Rattle.w4_defs.proofs.OptionLaws.{some_same}
use Rattle.w4_answers.proofs.LiveAnswerEventLaws.{counted_saved, counted_then, counted_wrote, fails_after}
use Rattle.w4_answers.proofs.LiveAnswerEventLaws.{fails_wrote}
use Rattle.w4_answers.proofs.WritingLaws.{there_is}
use Rattle.w4_answers.proofs.DeskSessionLaws.{appends_nothing, same_disk, same_editing_setup}

-- ---- events that are done, and bytes after them

bytes_front : (count : ℕ) (bytes : List ℕ) (behind : List Event)
    → IsFront (wrote (take count bytes)) (wrote bytes ++ behind)
bytes_front count bytes behind = (
  wrote (drop count bytes) ++ behind,
  ap (λ events. events ++ behind)
      (ap wrote (sym (take-append-drop count bytes)) ∙ wrote-append (take count bytes) (drop count bytes))
      ∙ append_assoc (wrote (take count bytes)) (wrote (drop count bytes)) behind,
)

front_after : (done front more : List Event) → IsFront front more → IsFront (done ++ front) (done ++ more)
front_after done front more (behind, is) =
    (behind, ap (λ events. done ++ events) is ∙ sym (append_assoc done front behind))

part_front : (done : List Event) (count : ℕ) (bytes : List ℕ)
    → IsFront (done ++ wrote (take count bytes)) (done ++ wrote bytes)
part_front done count bytes =
    front_after done (wrote (take count bytes)) (wrote bytes)
    (subst (λ events. IsFront (wrote (take count bytes)) events) (append-nil (wrote bytes))
    (bytes_front count bytes []))

stopped_written : (old mid new : World) (why : Manner) (done : List Event) (bytes : List ℕ)
    → DoesCounted old mid done → LeavesWriting mid new
    → StopsWriting mid new why bytes → StopsDoing old new why (done ++ wrote bytes)
stopped_written old mid new ReadFailed done bytes does rest h = h
stopped_written old mid new InputFailed done bytes does rest h = h
stopped_written old mid new WriteFailed done bytes does rest (rise, (count, h)) = (
  done ++ wrote (take count bytes),
  part_front done count bytes,
  fails_after old mid new done (wrote (take count bytes)) does
      (fails_wrote mid new (take count bytes) rise h rest),
)
stopped_written old mid new MemoryRefused done bytes does rest (count, h) = (
  done ++ wrote (take count bytes),
  part_front done count bytes,
  does_then old mid new done (wrote (take count bytes)) does.0
      (does_wrote mid new (take count bytes) h rest.files),
)
stopped_written old mid new (RefusedFor why) done bytes does rest h = h

pub done_written : {X : Type 0} (result : Result X Refusal) (old mid new : World) (done : List Event)
    (bytes : List ℕ) → DoesCounted old mid done → LeavesWriting mid new
    → Written mid new result bytes → Done old new result (done ++ wrote bytes)
done_written (Ok x) old mid new done bytes does rest h =
    counted_then old mid new done (wrote bytes) does (counted_wrote mid new bytes h rest)
done_written (Err why) old mid new done bytes does rest h =
    stopped_written old mid new (manner_of why) done bytes does rest h

-- ---- a `save`

untaken : (bytes : List ℕ) → taken_lines (wrote bytes) ≡ []
untaken [] = refl
untaken (byte ∷ bytes) = untaken bytes

save_untaken : (o : Opened) (s : LiveSession) (end : SaveEnd) → taken_lines (save_events o s end) ≡ []
save_untaken o s Replaced = untaken answer_end
save_untaken o s Refused = untaken (refused_save ++ answer_end)
save_untaken o s RefusedLate = untaken (refused_save ++ answer_end)

save_steps : (o : Opened) (s : LiveSession) (line : List ℕ) (end : SaveEnd) → asked_of line ≡ Asks live.Save
    → StepsTo o s line (end ∷ []) (save_events o s end) s
save_steps o s line end is = record {
  step = λ ends. ap (λ (asked : Asked). line_step o s (end ∷ ends) asked) is;
  untaken = save_untaken o s end;
}

-- the file was replaced, and so it was answered
pub save_replaced : {X : Type 0} (result : Result X Refusal) (old mid new : World) (o : Opened)
    (s : LiveSession)
    (name : List ℕ) (left : Recording) → o.out ≡ name → left ≡ recording_left o s
    → old.write_faults ≤ mid.write_faults → Does old mid (Saved name (encoding 2 left) ∷ [])
    → LeavesWriting mid new → Written mid new result answer_end → AnswersSave old new result o s
save_replaced result old mid new o s name left named is le does rest h = (
  Replaced,
  subst (λ events. Done old new result (events ++ wrote answer_end))
      (λ i. Saved (sym named i) (encoding 2 (is i)) ∷ [])
      (done_written result old mid new (Saved name (encoding 2 left) ∷ []) answer_end
      (counted_saved old mid name (encoding 2 left) le does) rest h),
)

-- it wasn't, or it was and that failed
pub save_refused : {X : Type 0} (result : Result X Refusal) (old mid new : World) (o : Opened)
    (s : LiveSession)
    (name : List ℕ) (left : Recording) → o.out ≡ name → left ≡ recording_left o s
    → StopsSaving old mid WriteFailed name (encoding 2 left)
    → LeavesWriting mid new → Written mid new result (refused_save ++ answer_end)
    → AnswersSave old new result o s
save_refused result old mid new o s name left named is (rise, inl does) rest h = (
  Refused,
  subst (λ events. Done old new result (events ++ wrote (refused_save ++ answer_end)))
      (λ i. NotSaved (sym named i) ∷ [])
      (done_written result old mid new (NotSaved name ∷ []) (refused_save ++ answer_end) (does, rise) rest h),
)
save_refused result old mid new o s name left named is (rise, inr does) rest h = (
  RefusedLate,
  subst (λ events. Done old new result (events ++ wrote (refused_save ++ answer_end)))
      (λ i. Saved (sym named i) (encoding 2 (is i)) ∷ NotSaved (sym named i) ∷ [])
      (done_written result old mid new (Saved name (encoding 2 left) ∷ NotSaved name ∷ [])
      (refused_save ++ answer_end) (does, rise) rest h),
)

-- it stopped at the file, for another reason than a write that failed
pub save_stopped : (old new : World) (why : Manner) (o : Opened) (s : LiveSession) (name : List ℕ)
    (left : Recording) → why ≢ WriteFailed → StopsSaving old new why name (encoding 2 left)
    → (end : SaveEnd) × StopsDoing old new why (save_events o s end)
save_stopped old new ReadFailed o s name left other h = absurd h
save_stopped old new InputFailed o s name left other h = absurd h
save_stopped old new WriteFailed o s name left other h = absurd (other refl)
save_stopped old new MemoryRefused o s name left other does =
    (Replaced, ([], (save_events o s Replaced, refl), does))
save_stopped old new (RefusedFor why) o s name left other h = absurd h

-- such a reason
pub other_manner : (why : Refusal) → why ≢ refusal.WriteFault → manner_of why ≢ WriteFailed
other_manner (refusal.CartRefused kind) other = λ is. absurd cc
other_manner (refusal.RecordingRefused kind) other = λ is. absurd cc
other_manner refusal.FontRefused other = λ is. absurd cc
other_manner (refusal.ScriptRefused kind) other = λ is. absurd cc
other_manner (refusal.ListRefused kind) other = λ is. absurd cc
other_manner (refusal.FrameRefused number n) other = λ is. absurd cc
other_manner refusal.ReadFault other = λ is. absurd cc
other_manner refusal.InputFault other = λ is. absurd cc
other_manner refusal.WriteFault other = absurd (other refl)
other_manner refusal.OutOfMemory other = λ is. absurd cc

line_stopped_save : (old new : World) (why : Manner) (o : Opened) (s : LiveSession) (line : List ℕ)
    (left : Recording) (end : SaveEnd) → asked_of line ≡ Asks live.Save → left ≡ recording_left o s
    → StopsDoing old new why (save_events o s end) → LineStops old new why o s line left
line_stopped_save old new ReadFailed o s line left end is kept h = h
line_stopped_save old new InputFailed o s line left end is kept h = h
line_stopped_save old new WriteFailed o s line left end is kept (front, is_front, fails) = (
  (end ∷ []),
  save_events o s end,
  s,
  save_steps o s line end is,
  front,
  is_front,
  fails,
  kept,
)
line_stopped_save old new MemoryRefused o s line left end is kept (front, is_front, does) = (
  (end ∷ []),
  save_events o s end,
  s,
  save_steps o s line end is,
  front,
  is_front,
  does,
  inl kept,
)
line_stopped_save old new (RefusedFor why) o s line left end is kept h = h

pub save_line : {X : Type 0} (result : Result X Refusal) (old new : World) (o : Opened) (s : LiveSession)
    (line : List ℕ) (e : Editing) (search : Option Search) → asked_of line ≡ Asks live.Save
    → Sits o s e search → AnswersSave old new result o s → AnswersLine old new result o s line e search
save_line (Ok x) old new o s line e search is sits (end, h) =
    ((end ∷ []), save_events o s end, s, save_steps o s line end is, h, sits)
save_line (Err why) old new o s line e search is sits (end, h) =
    line_stopped_save old new (manner_of why) o s line (current_recording e) end is sits.recording h

pub asks_save_is : (asked : Asked) → asks_save asked ≡ true → asked ≡ Asks live.Save
asks_save_is AsksNothing is = absurd cc
asks_save_is NoOrder is = absurd cc
asks_save_is (Asks (live.Script o)) is = absurd cc
asks_save_is (Asks (live.Query ask)) is = absurd cc
asks_save_is (Asks (live.PageAt p)) is = absurd cc
asks_save_is (Asks (live.GlobalsAt p)) is = absurd cc
asks_save_is (Asks (live.Inputs a b)) is = absurd cc
asks_save_is (Asks (live.Units a b)) is = absurd cc
asks_save_is (Asks live.Save) is = refl

-- ---- pieces and their end

some_value : {A : Type 0} (x : Option A) → IsSome x → (value : A) × (x ≡ Some value)
some_value (Some value) there = (value, refl)
some_value None there = absurd cc

asked_there : (o : Opened) (s : LiveSession) (asked : Asked) → RunsHaveMeaning o.cart
    → IsSome (asked_answer o s asked).out
asked_there o s AsksNothing meant = refl
asked_there o s NoOrder meant = refl
asked_there o s (Asks order) meant =
    live_answer_there framed (run_setup o.cart o.run) o.run.recording.disk
    (meant o.run.font o.run.recording.budget o.run.recording.disk) s order

step_is : (o : Opened) (s : LiveSession) (saves : List SaveEnd) (asked : Asked) → asks_save asked ≡ false
    → line_step o s saves asked ≡ answer_step saves (asked_answer o s asked)
step_is o s saves AsksNothing other = refl
step_is o s saves NoOrder other = refl
step_is o s saves (Asks (live.Script order)) other = refl
step_is o s saves (Asks (live.Query ask)) other = refl
step_is o s saves (Asks (live.PageAt p)) other = refl
step_is o s saves (Asks (live.GlobalsAt p)) other = refl
step_is o s saves (Asks (live.Inputs a b)) other = refl
step_is o s saves (Asks (live.Units a b)) other = refl
step_is o s saves (Asks live.Save) other = absurd cc

module _ (o : Opened) (s : LiveSession) (line : List ℕ) (asked : Asked) (is : asked ≡ asked_of line)
    (other : asks_save asked ≡ false) where
  pieces_step : (bytes : List ℕ) → (asked_answer o s asked).out ≡ Some bytes
      → StepsTo o s line [] (wrote (bytes ++ answer_end)) (asked_answer o s asked).session
  pieces_step bytes there = record {
    step = λ ends.
        ap (λ (a : Asked). line_step o s ends a) (sym is)
        ∙ step_is o s ends asked other
        ∙ ap (λ (out : Option (List ℕ)).
        answer_step ends (record (asked_answer o s asked) { out = out })) there;
    untaken = untaken (bytes ++ answer_end);
  }

  ended : (old new : World) (why : Manner) (bytes : List ℕ) (left : Recording)
      → (asked_answer o s asked).out ≡ Some bytes
      → left ≡ recording_left o (asked_answer o s asked).session
      → StopsDoing old new why (wrote (bytes ++ answer_end)) → LineStops old new why o s line left
  ended old new ReadFailed bytes left there kept h = h
  ended old new InputFailed bytes left there kept h = h
  ended old new WriteFailed bytes left there kept (front, is_front, fails) = (
    [],
    wrote (bytes ++ answer_end),
    (asked_answer o s asked).session,
    pieces_step bytes there,
    front,
    is_front,
    fails,
    kept,
  )
  ended old new MemoryRefused bytes left there kept (front, is_front, does) = (
    [],
    wrote (bytes ++ answer_end),
    (asked_answer o s asked).session,
    pieces_step bytes there,
    front,
    is_front,
    does,
    inl kept,
  )
  ended old new (RefusedFor why) bytes left there kept h = h

  line_ended : {X : Type 0} (result : Result X Refusal) (old new : World) (e : Editing)
      (search : Option Search) (bytes : List ℕ) → (asked_answer o s asked).out ≡ Some bytes
      → Sits o (asked_answer o s asked).session e search
      → Done old new result (wrote (bytes ++ answer_end)) → AnswersLine old new result o s line e search
  line_ended (Ok x) old new e search bytes there sits h = (
    [],
    wrote (bytes ++ answer_end),
    (asked_answer o s asked).session,
    pieces_step bytes there,
    h,
    sits,
  )
  line_ended (Err why) old new e search bytes there sits h =
      ended old new (manner_of why) bytes (current_recording e) there sits.recording h

  -- all pieces were written, and then the end or a first part of it
  pub pieces_line : {X : Type 0} (result : Result X Refusal) (old mid new : World) (e : Editing)
      (search : Option Search) → RunsHaveMeaning o.cart
      → ForSome (asked_answer o s asked).out (λ out. AppendsOut old.events mid.events out)
      → Sits o (asked_answer o s asked).session e search → LeavesWriting old mid → LeavesWriting mid new
      → Written mid new result answer_end → AnswersLine old new result o s line e search
  pieces_line result old mid new e search meant written sits rest ending h =
      let there = some_value (asked_answer o s asked).out (asked_there o s asked meant) in
      line_ended result old new e search there.0 there.1 sits
      (subst (λ events. Done old new result events) (sym (wrote-append there.0 answer_end))
      (done_written result old mid new (wrote there.0) answer_end
      (counted_wrote old mid there.0 (written there.0 there.1) rest) ending h))

  pieces_front : (count : ℕ) (bytes : List ℕ)
      → IsFront (wrote (take count bytes)) (wrote (bytes ++ answer_end))
  pieces_front count bytes =
      subst (λ events. IsFront (wrote (take count bytes)) events) (sym (wrote-append bytes answer_end))
      (bytes_front count bytes (wrote answer_end))

  take_nothing : (count : ℕ) (bytes : List ℕ) → bytes ≡ [] → wrote (take count bytes) ≡ []
  take_nothing zero bytes none = refl
  take_nothing (suc count) bytes none = ap (λ xs. wrote (take (suc count) xs)) none

  either : (count : ℕ) (bytes : List ℕ) (left : Recording)
      → LeavesLive MemoryRefused o s (asked_answer o s asked).session bytes left
      → (left ≡ recording_left o (asked_answer o s asked).session)
      ⊎ ((wrote (take count bytes) ≡ []) × (left ≡ recording_left o s))
  either count bytes left (inl kept) = inl kept
  either count bytes left (inr (none, kept)) = inr (take_nothing count bytes none, kept)

  -- the pieces stopped
  stopped : (old new : World) (why : Manner) (bytes : List ℕ) (left : Recording)
      → (asked_answer o s asked).out ≡ Some bytes → LeavesWriting old new → StopsWriting old new why bytes
      → LeavesLive why o s (asked_answer o s asked).session bytes left → LineStops old new why o s line left
  stopped old new ReadFailed bytes left there rest h kept = h
  stopped old new InputFailed bytes left there rest h kept = h
  stopped old new WriteFailed bytes left there rest (rise, (count, h)) kept = (
    [],
    wrote (bytes ++ answer_end),
    (asked_answer o s asked).session,
    pieces_step bytes there,
    wrote (take count bytes),
    pieces_front count bytes,
    fails_wrote old new (take count bytes) rise h rest,
    kept,
  )
  stopped old new MemoryRefused bytes left there rest (count, h) kept = (
    [],
    wrote (bytes ++ answer_end),
    (asked_answer o s asked).session,
    pieces_step bytes there,
    wrote (take count bytes),
    pieces_front count bytes,
    does_wrote old new (take count bytes) h rest.files,
    either count bytes left kept,
  )
  stopped old new (RefusedFor why) bytes left there rest h kept = h

  pub pieces_stopped : (why : Refusal) (old new : World) (e : Editing) → RunsHaveMeaning o.cart
      → ForSome (asked_answer o s asked).out (λ out. StopsWriting old new (manner_of why) out
      × LeavesLive (manner_of why) o s (asked_answer o s asked).session out (current_recording e))
      → LeavesWriting old new → LineStops old new (manner_of why) o s line (current_recording e)
  pieces_stopped why old new e meant h rest =
      let there = some_value (asked_answer o s asked).out (asked_there o s asked meant) in
      let part = h there.0 there.1 in
      stopped old new (manner_of why) there.0 (current_recording e) there.1 rest part.0 part.1

-- ---- what each kind of order gives

-- an order of a script leaves the session, or writes nothing
changed_quietly : (form : PieceForm) (s : Session ℕ) (m : Result (Session ℕ) EditRefusal)
    → ((answer_change form s m).session ≡ s) ⊎ ((answer_change form s m).out ≡ Some [])
changed_quietly form s (Ok after) = inr refl
changed_quietly form s (Err refusal) = inl refl

quietly : (form : PieceForm) (setup : Setup) (disk : List ℕ) (s : Session ℕ) (x : Order)
    → ((answer form setup disk s x).session ≡ s) ⊎ ((answer form setup disk s x).out ≡ Some [])
quietly form setup disk s (order.Set k input) = changed_quietly form s _
quietly form setup disk s (order.Insert k input) = changed_quietly form s _
quietly form setup disk s (order.Delete k) = changed_quietly form s _
quietly form setup disk s order.Undo = changed_quietly form s _
quietly form setup disk s order.Redo = changed_quietly form s _
quietly form setup disk s (order.Keep p) = changed_quietly form s _
quietly form setup disk s (order.KeepEvery every) = changed_quietly form s _
quietly form setup disk s (order.DropKept p) = changed_quietly form s _
quietly form setup disk s (order.Settle workers) = inl refl
quietly form setup disk s (order.Show p) = inl refl
quietly form setup disk s (order.Film a b workers) = inl refl
quietly form setup disk s (order.Tones a b) = inl refl
quietly form setup disk s (order.Traces a b) = inl refl
quietly form setup disk s (order.DiskAt p) = inl refl
quietly form setup disk s (order.StateAt p) = inl refl

-- the editor after an order sits where its session is the one left
sits_after : (o : Opened) (s : LiveSession) (old new : Editing) (search left found : Option Search)
    (next : Session ℕ) → Sits o s old search → KeepsRest old new → place_session new ≡ next → left ≡ found
    → Sits o (record { session = next; search = found }) new left
sits_after o s old new search left found next sits rest is same = record {
  session = is;
  search = same;
  setup = same_editing_setup old new rest ∙ sits.setup;
  disk = same_disk old new rest ∙ sits.disk;
  recording =
      ap (λ (e : Editing). current_recording e) rest
      ∙ ap (λ (r : Recording). record r { frames = new.session.current.inputs }) sits.recording
      ∙ ap (λ (x : Session ℕ). record o.run.recording { frames = x.current.inputs }) is;
}

-- the recording where an order of a script stopped
left_live : (why : Manner) (o : Opened) (s : LiveSession) (old new : Editing) (next : LiveSession)
    (bytes : List ℕ) → current_recording old ≡ recording_left o s
    → (next.session ≡ s.session) ⊎ (bytes ≡ []) → LeavesRecording why old new next.session
    → LeavesLive why o s next bytes (current_recording new)
left_live ReadFailed o s old new next bytes at quiet left = tt
left_live InputFailed o s old new next bytes at quiet left = tt
left_live WriteFailed o s old new next bytes at quiet left =
    left ∙ ap (λ (r : Recording). record r { frames = next.session.current.inputs }) at
left_live MemoryRefused o s old new next bytes at (inl same) left =
    inl (left ∙ at ∙ ap (λ (x : Session ℕ). record o.run.recording { frames = x.current.inputs }) (sym same))
left_live MemoryRefused o s old new next bytes at (inr none) left = inr (none, left ∙ at)
left_live (RefusedFor why) o s old new next bytes at quiet left = tt

-- where it was kept
kept_live : (why : Manner) (o : Opened) (s next : LiveSession) (bytes : List ℕ) (left : Recording)
    → left ≡ recording_left o next → LeavesLive why o s next bytes left
kept_live ReadFailed o s next bytes left kept = tt
kept_live InputFailed o s next bytes left kept = tt
kept_live WriteFailed o s next bytes left kept = kept
kept_live MemoryRefused o s next bytes left kept = inl kept
kept_live (RefusedFor why) o s next bytes left kept = tt

no_bytes : (out : Option (List ℕ)) (bytes : List ℕ) {A : Type 0} → A ⊎ (out ≡ Some []) → out ≡ Some bytes
    → A ⊎ (bytes ≡ [])
no_bytes out bytes (inl same) is = inl same
no_bytes out bytes (inr none) is = inr (some_same bytes [] (sym is ∙ none))

abbrev live_setup : Opened → Setup
live_setup o = run_setup o.cart o.run

pub script_gives : {X : Type 0} (result : Result X Refusal) (before after : World) (o : Opened)
    (s : LiveSession) (old new : Editing) (search : Option Search) (x : Order) → Sits o s old search
    → GivesAnswer before after result old new (answer_by framed old x)
    → GivesPieces before after result o s
    (live_answer framed (live_setup o) o.run.recording.disk s (live.Script x)) new search
script_gives (Ok done) before after o s old new search x sits told =
    let same : answer_by framed old x ≡ answer framed (live_setup o) o.run.recording.disk s.session x =
    λ i. answer framed (sits.setup i) (sits.disk i) (sits.session i) x in (
      λ out is. told.out out (ap (λ (a : Answered (Session ℕ)). a.out) same ∙ is),
      sits_after o s old new search search s.search
          (answer framed (live_setup o) o.run.recording.disk s.session x).session sits told.rest
          (told.session ∙ ap (λ (a : Answered (Session ℕ)). a.session) same) sits.search,
    )
script_gives (Err why) before after o s old new search x sits told = λ out is.
    let same : answer_by framed old x ≡ answer framed (live_setup o) o.run.recording.disk s.session x =
    λ i. answer framed (sits.setup i) (sits.disk i) (sits.session i) x in
    let wanted = answer framed (live_setup o) o.run.recording.disk s.session x in (
      told.0 out (ap (λ (a : Answered (Session ℕ)). a.out) same ∙ is),
      left_live (manner_of why) o s old new (record s { session = wanted.session }) out sits.recording
          (no_bytes wanted.out out (quietly framed (live_setup o) o.run.recording.disk s.session x) is)
          (subst (λ (a : Answered (Session ℕ)). LeavesRecording
          (manner_of why) old new a.session) same told.1),
    )

pub query_gives : {X : Type 0} (result : Result X Refusal) (before after : World) (o : Opened)
    (s : LiveSession) (old new : Editing) (search left : Option Search) (ask : Ask) → Sits o s old search
    → GivesLineAnswer before after result old new left (ask_answer framed old search ask)
    → GivesPieces before after result o s
    (live_answer framed (live_setup o) o.run.recording.disk s (live.Query ask)) new left
query_gives (Ok done) before after o s old new search left ask sits told =
    let wanted =
    ram_answer framed (pages_of (live_setup o) o.run.recording.disk s.session.current.inputs) s.search ask in
    let same : ask_answer framed old search ask ≡ wanted =
    λ i. ram_answer framed (pages_of (sits.setup i) (sits.disk i) (sits.session i).current.inputs)
    (sits.search i) ask in (
      λ out is. told.out out (ap (λ (a : Answered (Option Search)). a.out) same ∙ is),
      sits_after o s old new search left wanted.session s.session sits told.shows.rest
          (told.shows.session ∙ sits.session)
          (told.search ∙ ap (λ (a : Answered (Option Search)). a.session) same),
    )
query_gives (Err why) before after o s old new search left ask sits told = λ out is.
    let wanted =
    ram_answer framed (pages_of (live_setup o) o.run.recording.disk s.session.current.inputs) s.search ask in
    let same : ask_answer framed old search ask ≡ wanted =
    λ i. ram_answer framed (pages_of (sits.setup i) (sits.disk i) (sits.session i).current.inputs)
    (sits.search i) ask in (
      told.0 out (ap (λ (a : Answered (Option Search)). a.out) same ∙ is),
      kept_live (manner_of why) o s (record s { search = wanted.session }) out (current_recording new)
          (told.1 ∙ sits.recording),
    )

-- an order of the session's own changes nothing
abbrev own_answer : Editing → LiveSession → LiveOrder → Answered LiveSession
own_answer e s x = live_answer framed (editing_setup e) e.disk s x

pub own_gives : {X : Type 0} (result : Result X Refusal) (before after : World) (o : Opened)
    (s : LiveSession) (old new : Editing) (search : Option Search) (x : LiveOrder) → Sits o s old search
    → ForSome (own_answer old s x).out (λ out. Written before after result out)
    → (own_answer old s x).session ≡ s → OnOk result (OnlyShows old new)
    → current_recording new ≡ current_recording old
    → GivesPieces before after result o s (live_answer framed (live_setup o) o.run.recording.disk s x) new
    search
own_gives (Ok done) before after o s old new search x sits written session shows kept =
    let same : own_answer old s x ≡ live_answer framed (live_setup o) o.run.recording.disk s x =
    λ i. live_answer framed (sits.setup i) (sits.disk i) s x in (
      λ out is. written out (ap (λ (a : Answered LiveSession). a.out) same ∙ is),
      subst (λ (next : LiveSession). Sits o next new search)
          (sym session ∙ ap (λ (a : Answered LiveSession). a.session) same)
          (sits_after o s old new search search s.search s.session sits shows.rest
          (shows.session ∙ sits.session) sits.search),
    )
own_gives (Err why) before after o s old new search x sits written session shows kept = λ out is.
    let same : own_answer old s x ≡ live_answer framed (live_setup o) o.run.recording.disk s x =
    λ i. live_answer framed (sits.setup i) (sits.disk i) s x in (
      written out (ap (λ (a : Answered LiveSession). a.out) same ∙ is),
      kept_live (manner_of why) o s (live_answer framed (live_setup o) o.run.recording.disk s x).session out
          (current_recording new)
          (kept ∙ sits.recording
          ∙ ap (λ (next : LiveSession). recording_left o next)
          (sym session ∙ ap (λ (a : Answered LiveSession). a.session) same)),
    )

pub own_order : (x : LiveOrder) → ((y : Order) → x ≢ live.Script y) → ((y : Ask) → x ≢ live.Query y)
    → asks_save (Asks x) ≡ false → IsOwn x
own_order (live.Script y) script query other = absurd (script y refl)
own_order (live.Query y) script query other = absurd (query y refl)
own_order (live.PageAt p) script query other = tt
own_order (live.GlobalsAt p) script query other = tt
own_order (live.Inputs a b) script query other = tt
own_order (live.Units a b) script query other = tt
own_order live.Save script query other = let save : true ≡ false = other in cc

-- what has no pieces, and what has one
pub nothing_gives : (world : World) (o : Opened) (s : LiveSession) (e : Editing) (search : Option Search)
    → Sits o s e search → GivesPieces {X = ⊤} world world (Ok tt) o s (carried_out s) e search
nothing_gives world o s e search sits = (
  there_is (λ out. AppendsOut world.events world.events out) (Some []) [] refl
      (appends_nothing world [] refl),
  sits,
)

pub piece_gives : {X : Type 0} (result : Result X Refusal) (before after : World) (o : Opened)
    (s : LiveSession) (e : Editing) (search : Option Search) (piece : List ℕ) → Sits o s e search
    → Written before after result piece
    → GivesPieces before after result o s (answer_text s (Some piece)) e search
piece_gives (Ok done) before after o s e search piece sits written =
    (there_is (λ out. AppendsOut before.events after.events out) (Some piece) piece refl written, sits)
piece_gives (Err why) before after o s e search piece sits written =
    there_is (λ out. StopsWriting before after (manner_of why) out
    × LeavesLive (manner_of why) o s s out (current_recording e)) (Some piece) piece refl
    (written, kept_live (manner_of why) o s s piece (current_recording e) sits.recording)

-- ---- what is left of the world

pub serving_writing : (old new : World) → LeavesWriting old new → LeavesServing old new
serving_writing old new rest =
    record { err = rest.err; errs = rest.errs; reads = omega (arith, rest.reads); writes = rest.later }

pub serving_saving : (old new : World) → LeavesSaving old new → LeavesServing old new
serving_saving old new rest =
    record { err = rest.err; errs = rest.errs; reads = omega (arith, rest.reads); writes = rest.later }

pub serving_then : (first second third : World) → LeavesServing first second → LeavesServing second third
    → LeavesServing first third
serving_then first second third one next = record {
  err = next.err ∙ one.err;
  errs = next.errs ∙ one.errs;
  reads = omega (arith, one.reads, next.reads);
  writes = omega (arith, one.writes, next.writes);
}
