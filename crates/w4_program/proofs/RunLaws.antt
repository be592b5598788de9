-- Resets, frames and runs of a cart that was judged have a meaning. What a form does is what the words that
-- have it do, and how the whole ended is so after the report of its status, too.
use Rattle.std.proofs.Common.{◌≡◌, ℕ, List, Result, Ok, Err, refl, inr, Option, Some, None, ◌⊎◌, ◌+◌, inl, []}
use Rattle.std.proofs.Common.{◌∷◌, ◌++◌, take, sym, subst, ◌∙◌}
use Rattle.w4_defs.specs.Generator.{made_module}
use Rattle.w4_defs.specs.Meaning.{FramesHaveMeaning, AcceptedRunsHaveMeaning}
use Rattle.w4_defs.specs.EncodeModule.{module_bytes}
use Rattle.wasm_write.specs.Laws.{MadeModulesAreCarts}
use Rattle.w4_defs.specs.World.{Files, World, Event, InputLost, Rises, RisesBy, AppendsFront, Does}
use Rattle.w4_defs.specs.World.{FailsToSave, OutFails, SavesOrFails, LeavesReporting, failed_saves, not_saved}
use Rattle.w4_defs.specs.declared.status.Refusal.{Refusal}
use Rattle.w4_defs.specs.Output.{CartFile, JudgedCart, reading, Output, all_events}
use Rattle.w4_defs.specs.CartRuns.{CartRunsHaveMeaning}
use Rattle.w4_defs.specs.declared.status.Finish.{Finish}
use Rattle.w4_defs.specs.declared.status.Status.{Status}
use Rattle.w4_defs.specs.Causes.{Ends, EndsRefused, EndsWhole, IsCutShort, IsWhole, LeavesErr, LeavesOutputs}
use Rattle.w4_defs.specs.Causes.{LosesInput, RunsOutAfter, WritesPart, stopped_events}
use Rattle.w4_defs.specs.Commands.{Form, form_of}
use Rattle.w4_defs.specs.Outputs.{Outputs, OutputsBy}
use Rattle.w4_commands.proofs.CommandLaws.{ends_as}
use Rattle.w4_program.specs.Run.{IsObeyed, status_of_end}
use Rattle.w4_defs.specs.declared.status.Finish.TheVariants as finish
use Rattle.w4_defs.specs.declared.status.Refusal.TheVariants as refusal
use Rattle.w4_defs.specs.declared.status.Status.TheVariants as status
use Rattle.w4_defs.specs.Endings.{Manner, ReadFailed, InputFailed, WriteFailed, MemoryRefused, Refused}
use Rattle.w4_defs.specs.Endings.{manner_of, status_of_finish, status_of_refusal}
use Rattle.w4_defs.specs.StatusLines.{status_line}

not_both : (cart : CartFile) (refusal : Refusal) (found : Result CartFile Refusal) → found ≡ Ok cart
    → found ≡ Err refusal → ⊥
not_both cart refusal found one other = cc

judged_cart_runs : AcceptedRunsHaveMeaning
    → (found : Result (List ℕ) Refusal) (cart : CartFile) → JudgedCart found (Ok cart)
    → FramesHaveMeaning cart.code
judged_cart_runs law (Err refusal) cart judged = absurd (not_both cart refusal (Ok cart) refl judged)
judged_cart_runs law (Ok bytes) cart judged = law bytes cart.code judged.0

-- of a cart that the words name, of a second one, and of one that they have made
pub cart_runs : AcceptedRunsHaveMeaning → MadeModulesAreCarts
    → (words : List (List ℕ)) (files : Files) → CartRunsHaveMeaning words files
cart_runs law made words files = (
  λ name named cart judged. judged_cart_runs law (reading files name 65537) cart judged,
  λ name named cart judged. judged_cart_runs law (reading files name 65537) cart judged,
  λ number named. law (module_bytes (made_module number)) (made_module number) (made number),
)

-- words that have a form aren't without one
pub not_none : (found : Option Form) (form : Form) → found ≡ Some form → found ≡ None → ⊥
not_none found form some none = cc

pub form_obeyed : (old new : World) (words : List (List ℕ)) (form : Form) (end : Result Finish Refusal)
    (status : Status) → form_of words ≡ Some form → status ≡ status_of_end end
    → Ends old new end (OutputsBy form)
    → IsObeyed old new status (form_of words ≡ None) (Outputs words)
form_obeyed old new words form end status formed is ends = inr (
  not_none (form_of words) form formed,
  end,
  is,
  ends_as old new end (OutputsBy form) (Outputs words)
      (λ files told output made. (form, formed, made)) ends,
)

abbrev pub Step : Type 1
Step = Files → Result Output Refusal → Type 0

-- ---- what was done before the report

module _ (old mid new : World) (leaves : LeavesReporting mid new) where
  does_reported : (done : List Event) → Does old mid done → Does old new done
  does_reported done h =
      record { events = λ before told. leaves.events ∙ h.events before told; files = leaves.files ∙ h.files }

  fails_reported : (done saved : List Event) → FailsToSave old mid done saved → FailsToSave old new done saved
  fails_reported done saved (inl does) = inl (does_reported (done ++ not_saved saved) does)
  fails_reported done saved (inr does) = inr (does_reported (done ++ saved ++ not_saved saved) does)

  out_fails_reported : (done : List Event) → OutFails old mid done → OutFails old new done
  out_fails_reported done out =
      subst (λ n. RisesBy (failed_saves done + 1) old.write_faults n) (sym leaves.writes) out

  saves_reported : (done saved : List Event) → SavesOrFails old mid done saved
      → SavesOrFails old new done saved
  saves_reported done saved (inl does) = inl (does_reported (done ++ saved) does)
  saves_reported done saved (inr fails) = inr (fails_reported done saved fails)

  reads_reported : Rises old.read_faults mid.read_faults → Rises old.read_faults new.read_faults
  reads_reported rise = subst (λ n. Rises old.read_faults n) (sym leaves.reads) rise

  untouched_reported : LeavesOutputs old mid → LeavesOutputs old new
  untouched_reported h = (leaves.events ∙ h.0, leaves.files ∙ h.1)

  part_reported : (output : Output) → WritesPart old mid output → WritesPart old new output
  part_reported output (inl (count, short, inl (does, out))) = inl (
    count,
    short,
    inl (
      does_reported (stopped_events output count) does,
      out_fails_reported (stopped_events output count) out,
    ),
  )
  part_reported output (inl (count, short, inr (fails, out))) = inl (
    count,
    short,
    inr (
      fails_reported (take count output.events) (output.rescued count) fails,
      out_fails_reported (take count output.events ++ not_saved (output.rescued count)) out,
    ),
  )
  part_reported output (inr (inl (count, wants, rise, fails))) = inr (inl (
    count,
    wants,
    reads_reported rise,
    fails_reported (take count output.events ++ InputLost ∷ []) (output.rescued count) fails,
  ))
  part_reported output (inr (inr fails)) = inr (inr (fails_reported output.events output.saved fails))

  input_reported : (output : Output) → LosesInput old mid output → LosesInput old new output
  input_reported output (count, wants, does) =
      (count, wants, does_reported (take count output.events ++ InputLost ∷ output.rescued count) does)

  runs_out_reported : (output : Output) (count : ℕ) → RunsOutAfter old mid output count
      → RunsOutAfter old new output count
  runs_out_reported output count (inl does) = inl (does_reported (take count output.events) does)
  runs_out_reported output count (inr (inl (before, near, saves))) =
      inr (inl (before, near, saves_reported (take count output.events) (output.rescued before) saves))
  runs_out_reported output count (inr (inr (wants, inl does))) =
      inr (inr (wants, inl (does_reported (take count output.events ++ InputLost ∷ []) does)))
  runs_out_reported output count (inr (inr (wants, inr saves))) = inr (inr (
    wants,
    inr (saves_reported (take count output.events ++ InputLost ∷ []) (output.rescued count) saves),
  ))

  refused_reported : (why : Manner) (step : Step) → EndsRefused old mid why step
      → EndsRefused old new why step
  refused_reported ReadFailed step (inl rise, same) = (inl (reads_reported rise), untouched_reported same)
  refused_reported ReadFailed step (inr absent, same) = (inr absent, untouched_reported same)
  refused_reported InputFailed step (rise, h) = (
    reads_reported rise,
    λ files told. let one = h files told in (one.0, one.1, input_reported one.0 one.2),
  )
  refused_reported WriteFailed step (rise, h) = (
    subst (λ n. Rises old.write_faults n) (sym leaves.writes) rise,
    λ files told. let one = h files told in (one.0, one.1, part_reported one.0 one.2),
  )
  refused_reported MemoryRefused step (inl same) = inl (untouched_reported same)
  refused_reported MemoryRefused step (inr h) = inr (λ files told.
      let one = h files told in (one.0, one.1, one.2, runs_out_reported one.0 one.2 one.3))
  refused_reported (Refused why) step (h, same) = (h, untouched_reported same)

  whole_reported : (wanted : Finish) (step : Step) → EndsWhole old mid wanted step
      → EndsWhole old new wanted step
  whole_reported wanted step h = λ files told.
      let one = h files told in (one.0, one.1, one.2, does_reported (all_events one.0) one.3)

-- ---- how the whole ended, by its status

abbrev pub EndsBy : World → World → Status → Type 0 → Step → Type 0
EndsBy old new status.Done NoForm step = EndsWhole old new finish.Done step
EndsBy old new status.Different NoForm step = EndsWhole old new finish.Different step
EndsBy old new status.Usage NoForm step = NoForm × LeavesOutputs old new
EndsBy old new (status.CartRefused kind) NoForm step =
    EndsRefused old new (Refused (refusal.CartRefused kind)) step
EndsBy old new (status.RecordingRefused kind) NoForm step =
    EndsRefused old new (Refused (refusal.RecordingRefused kind)) step
EndsBy old new status.FontRefused NoForm step = EndsRefused old new (Refused refusal.FontRefused) step
EndsBy old new (status.ScriptRefused kind) NoForm step =
    EndsRefused old new (Refused (refusal.ScriptRefused kind)) step
EndsBy old new status.ReadFault NoForm step = EndsRefused old new ReadFailed step
EndsBy old new status.InputFault NoForm step = EndsRefused old new InputFailed step
EndsBy old new status.WriteFault NoForm step = EndsRefused old new WriteFailed step
EndsBy old new status.OutOfMemory NoForm step = IsCutShort old new NoForm step
EndsBy old new (status.FrameRefused number n) NoForm step =
    EndsRefused old new (Refused (refusal.FrameRefused number n)) step
EndsBy old new (status.ListRefused kind) NoForm step =
    EndsRefused old new (Refused (refusal.ListRefused kind)) step

module _ (old new : World) (NoForm : Type 0) (step : Step) where
  whole_by : (wanted : Finish) → EndsWhole old new wanted step
      → EndsBy old new (status_of_finish wanted) NoForm step
  whole_by finish.Done h = h
  whole_by finish.Different h = h

  refused_by : (why : Refusal) → EndsRefused old new (manner_of why) step
      → (status_of_refusal why ≡ status.OutOfMemory → IsCutShort old new NoForm step)
      → EndsBy old new (status_of_refusal why) NoForm step
  refused_by (refusal.CartRefused kind) h cut = h
  refused_by (refusal.RecordingRefused kind) h cut = h
  refused_by refusal.FontRefused h cut = h
  refused_by (refusal.ScriptRefused kind) h cut = h
  refused_by (refusal.ListRefused kind) h cut = h
  refused_by (refusal.FrameRefused number n) h cut = h
  refused_by refusal.ReadFault h cut = h
  refused_by refusal.InputFault h cut = h
  refused_by refusal.WriteFault h cut = h
  refused_by refusal.OutOfMemory h cut = cut refl

  -- a status that stands, or memory that ran out while it was reported
  by_status : (why result : Status) → (result ≡ why) ⊎ (result ≡ status.OutOfMemory)
      → EndsBy old new why NoForm step → (result ≡ status.OutOfMemory → IsCutShort old new NoForm step)
      → EndsBy old new result NoForm step
  by_status why result (inl same) h cut = subst (λ s. EndsBy old new s NoForm step) (sym same) h
  by_status why result (inr memory) h cut =
      subst (λ s. EndsBy old new s NoForm step) (sym memory) (cut memory)

finish_whole : (wanted : Finish) → IsWhole (status_of_finish wanted)
finish_whole finish.Done = tt
finish_whole finish.Different = tt

-- where memory ran out in the work, that is what is reported
out_of_memory : (why result : Status) → (result ≡ why) ⊎ (result ≡ status.OutOfMemory)
    → why ≡ status.OutOfMemory → result ≡ status.OutOfMemory
out_of_memory why result (inl same) memory = same ∙ memory
out_of_memory why result (inr cut) memory = cut

-- what the report of a status says of it
abbrev Cut : World → World → Status → Status → Type 0
Cut mid new why result =
    result ≡ status.OutOfMemory → (¬ IsWhole why) × AppendsFront mid.err new.err (status_line why)

module _ (old mid new : World) (NoForm : Type 0) (step : Step) (leaves : LeavesReporting mid new)
    (errs : LeavesErr old mid) where
  front_since : (line : List ℕ) → AppendsFront mid.err new.err line → AppendsFront old.err new.err line
  front_since line front = subst (λ err. AppendsFront err new.err line) errs.0 front

  cut_refused : (why : Refusal) (result : Status) → EndsRefused old new (manner_of why) step
      → Cut mid new (status_of_refusal why) result → result ≡ status.OutOfMemory
      → IsCutShort old new NoForm step
  cut_refused why result h cut memory =
      inr (why, h, front_since (status_line (status_of_refusal why)) (cut memory).1)

  ended_reported : (end : Result Finish Refusal) (result : Status) → Ends old mid end step
      → (result ≡ status_of_end end) ⊎ (result ≡ status.OutOfMemory)
      → Cut mid new (status_of_end end) result → EndsBy old new result NoForm step
  ended_reported (Ok wanted) result h stands cut =
      by_status old new NoForm step (status_of_finish wanted) result stands
      (whole_by old new NoForm step wanted (whole_reported old mid new leaves wanted step h))
      (λ memory. absurd ((cut memory).0 (finish_whole wanted)))
  ended_reported (Err why) result h stands cut =
      let after = refused_reported old mid new leaves (manner_of why) step h in
      by_status old new NoForm step (status_of_refusal why) result stands
      (refused_by old new NoForm step why after
      (λ memory. cut_refused why result after cut
      (out_of_memory (status_of_refusal why) result stands memory)))
      (cut_refused why result after cut)

  usage_reported : (result : Status) → NoForm → LeavesOutputs old mid
      → (result ≡ status.Usage) ⊎ (result ≡ status.OutOfMemory) → Cut mid new status.Usage result
      → EndsBy old new result NoForm step
  usage_reported result formless same stands cut =
      let after = untouched_reported old mid new leaves same in
      by_status old new NoForm step status.Usage result stands (formless, after)
      (λ memory. inl (formless, after, front_since (status_line status.Usage) (cut memory).1))

  pub obeyed_reported : (why result : Status) → IsObeyed old mid why NoForm step
      → (result ≡ why) ⊎ (result ≡ status.OutOfMemory) → Cut mid new why result
      → EndsBy old new result NoForm step
  obeyed_reported why result (inl (usage, formless, same)) stands cut =
      usage_reported result formless same
      (subst (λ s. (result ≡ s) ⊎ (result ≡ status.OutOfMemory)) usage stands)
      (subst (λ s. Cut mid new s result) usage cut)
  obeyed_reported why result (inr (formed, end, is, h)) stands cut =
      ended_reported end result h (subst (λ s. (result ≡ s) ⊎ (result ≡ status.OutOfMemory)) is stands)
      (subst (λ s. Cut mid new s result) is cut)
