-- What each status says, by how the whole ended.
use Rattle.std.proofs.Common.{◌≡◌, ℕ, ◌⊎◌, inl, inr, List, Some, Ok, Err, refl, ap, sym, subst, ◌∙◌}
use Rattle.std.specs.Option.{ForSome}
use Rattle.w4_defs.specs.declared.refusal.CartKind.{CartKind}
use Rattle.w4_defs.specs.World.{Files, World, Rises, Does}
use Rattle.w4_defs.specs.declared.status.Finish.{Finish}
use Rattle.w4_defs.specs.declared.status.Finish.TheVariants as finish
use Rattle.w4_defs.specs.declared.status.RecordingKind.{RecordingKind}
use Rattle.w4_defs.specs.declared.status.ScriptKind.{ScriptKind}
use Rattle.w4_defs.specs.declared.status.Refusal.TheVariants as refusal
use Rattle.w4_defs.specs.declared.status.Status.{Status}
use Rattle.w4_defs.specs.declared.status.Status.TheVariants as status
use Rattle.w4_defs.specs.Endings.{status_of_finish}
use Rattle.w4_defs.specs.Output.{Output, all_events}
use Rattle.w4_defs.specs.Causes.{ChangesNothing, EndsWhole, IsCutShort, IsExact, LeavesErr, LeavesOutputs}
use Rattle.w4_defs.specs.Causes.{LosesInput, ReadFails, Reports, StepRefuses, WritesPart}
use Rattle.w4_defs.specs.Promise.{NoFault}
use Rattle.w4_program.specs.Run.{IsObeyed}
use Rattle.w4_program.proofs.RunLaws.{EndsBy, Step}

whole_means : (old new : World) (wanted : Finish) (step : Step) (Means : Files → Type 0)
    → ((files : Files) → Means files) → EndsWhole old new wanted step
    → ForSome old.files (λ files. (output : Output) × step files (Ok output) × (output.finish ≡ wanted)
    × Does old new (all_events output) × Means files)
whole_means old new wanted step Means means h = λ files told.
    let one = h files told in (one.0, one.1, one.2, one.3, means files)

some_is : (files other : Files) → Some files ≡ Some other → files ≡ other
some_is files other e = cc

module _ (old new : World) (NoForm : Type 0) (step : Step) where
  -- what the whole says of a result, it says of the status that this is
  of_status : (result wanted : Status) → EndsBy old new result NoForm step → result ≡ wanted
      → EndsBy old new wanted NoForm step
  of_status result wanted h e = subst (λ s. EndsBy old new s NoForm step) e h

  pub done : (result : Status) (Means : Files → Type 0) → EndsBy old new result NoForm step
      → ((files : Files) → Means files) → result ≡ status.Done
      → ForSome old.files (λ files. (output : Output) × step files (Ok output) × (output.finish ≡ finish.Done)
      × Does old new (all_events output) × Means files)
  done result Means h means e =
      whole_means old new finish.Done step Means means (of_status result status.Done h e)

  pub different : (result : Status) (Means : Files → Type 0) → EndsBy old new result NoForm step
      → ((files : Files) → Means files) → result ≡ status.Different
      → ForSome old.files
      (λ files. (output : Output) × step files (Ok output) × (output.finish ≡ finish.Different)
      × Does old new (all_events output) × Means files)
  different result Means h means e =
      whole_means old new finish.Different step Means means (of_status result status.Different h e)

  pub usage : (result : Status) → EndsBy old new result NoForm step → result ≡ status.Usage → NoForm
  usage result h e = (of_status result status.Usage h e).0

  pub read_fault : (result : Status) → EndsBy old new result NoForm step → result ≡ status.ReadFault
      → ReadFails old new step
  read_fault result h e = (of_status result status.ReadFault h e).0

  pub input_fault : (result : Status) → EndsBy old new result NoForm step → result ≡ status.InputFault
      → Rises old.read_faults new.read_faults
      × ForSome old.files (λ files. (output : Output) × step files (Ok output) × LosesInput old new output)
  input_fault result h e = of_status result status.InputFault h e

  pub write_fault : (result : Status) → EndsBy old new result NoForm step → result ≡ status.WriteFault
      → Rises old.write_faults new.write_faults
      × ForSome old.files (λ files. (output : Output) × step files (Ok output) × WritesPart old new output)
  write_fault result h e = of_status result status.WriteFault h e

  pub out_of_memory : (result : Status) → EndsBy old new result NoForm step → result ≡ status.OutOfMemory
      → IsCutShort old new NoForm step
  out_of_memory result h e = of_status result status.OutOfMemory h e

  pub cart_refused : (result : Status) → EndsBy old new result NoForm step → (kind : CartKind)
      → result ≡ status.CartRefused kind → StepRefuses old (refusal.CartRefused kind) step
  cart_refused result h kind e = (of_status result (status.CartRefused kind) h e).0

  pub recording_refused : (result : Status) → EndsBy old new result NoForm step → (kind : RecordingKind)
      → result ≡ status.RecordingRefused kind → StepRefuses old (refusal.RecordingRefused kind) step
  recording_refused result h kind e = (of_status result (status.RecordingRefused kind) h e).0

  pub font_refused : (result : Status) → EndsBy old new result NoForm step → result ≡ status.FontRefused
      → StepRefuses old refusal.FontRefused step
  font_refused result h e = (of_status result status.FontRefused h e).0

  pub script_refused : (result : Status) → EndsBy old new result NoForm step → (kind : ScriptKind)
      → result ≡ status.ScriptRefused kind → StepRefuses old (refusal.ScriptRefused kind) step
  script_refused result h kind e = (of_status result (status.ScriptRefused kind) h e).0

  pub frame_refused : (result : Status) → EndsBy old new result NoForm step → (number n : ℕ)
      → result ≡ status.FrameRefused number n → StepRefuses old (refusal.FrameRefused number n) step
  frame_refused result h number n e = (of_status result (status.FrameRefused number n) h e).0

  pub list_refused : (result : Status) → EndsBy old new result NoForm step → (kind : ScriptKind)
      → result ≡ status.ListRefused kind → StepRefuses old (refusal.ListRefused kind) step
  list_refused result h kind e = (of_status result (status.ListRefused kind) h e).0

  pub refused_leaves_outputs : (result : Status) → EndsBy old new result NoForm step → ChangesNothing result
      → LeavesOutputs old new
  refused_leaves_outputs status.Done h r = absurd r
  refused_leaves_outputs status.Different h r = absurd r
  refused_leaves_outputs status.Usage h r = h.1
  refused_leaves_outputs (status.CartRefused kind) h r = h.1
  refused_leaves_outputs (status.RecordingRefused kind) h r = h.1
  refused_leaves_outputs status.FontRefused h r = h.1
  refused_leaves_outputs (status.ScriptRefused kind) h r = h.1
  refused_leaves_outputs status.ReadFault h r = h.1
  refused_leaves_outputs status.InputFault h r = absurd r
  refused_leaves_outputs status.WriteFault h r = absurd r
  refused_leaves_outputs status.OutOfMemory h r = absurd r
  refused_leaves_outputs (status.FrameRefused number n) h r = h.1
  refused_leaves_outputs (status.ListRefused kind) h r = h.1

  whole_exact : (wanted : Finish) → EndsWhole old new wanted step
      → ForSome old.files (λ files. NoFault old new → IsExact (status_of_finish wanted) NoForm (step files))
  whole_exact wanted h = λ files told well.
      let one = h files told in inr (inr (Ok one.0, one.1, ap status_of_finish (sym one.2)))

  -- where neither a read nor a write failed, the status is that of what the step allows, or words without a
  -- form were refused, or memory ran out
  pub exact : (result : Status) → EndsBy old new result NoForm step
      → ForSome old.files (λ files. NoFault old new → IsExact result NoForm (step files))
  exact status.Done h = whole_exact finish.Done h
  exact status.Different h = whole_exact finish.Different h
  exact status.Usage h = λ files told well. inr (inl (refl, h.0))
  exact (status.CartRefused kind) h =
      λ files told well. inr (inr (Err (refusal.CartRefused kind), h.0 files told, refl))
  exact (status.RecordingRefused kind) h =
      λ files told well. inr (inr (Err (refusal.RecordingRefused kind), h.0 files told, refl))
  exact status.FontRefused h =
      λ files told well. inr (inr (Err refusal.FontRefused, h.0 files told, refl))
  exact (status.ScriptRefused kind) h =
      λ files told well. inr (inr (Err (refusal.ScriptRefused kind), h.0 files told, refl))
  exact status.ReadFault (inl rise, same) = λ files told well. absurd (well.0 rise)
  exact status.ReadFault (inr (found, known, absent), same) = λ files told well.
      inr (inr (
        Err refusal.ReadFault,
        subst (λ fs. step fs (Err refusal.ReadFault)) (some_is found files (sym known ∙ told)) absent,
        refl,
      ))
  exact status.InputFault h = λ files told well. absurd (well.0 h.0)
  exact status.WriteFault h = λ files told well. absurd (well.1 h.0)
  exact status.OutOfMemory h = λ files told well. inl refl
  exact (status.FrameRefused number n) h =
      λ files told well. inr (inr (Err (refusal.FrameRefused number n), h.0 files told, refl))
  exact (status.ListRefused kind) h =
      λ files told well. inr (inr (Err (refusal.ListRefused kind), h.0 files told, refl))

  -- words without a form are refused as such, or memory ran out while that was reported
  pub no_form : (why result : Status) → IsObeyed old new why NoForm step
      → (result ≡ why) ⊎ (result ≡ status.OutOfMemory) → NoForm
      → (result ≡ status.Usage) ⊎ (result ≡ status.OutOfMemory)
  no_form why result (inl (is, formless, same)) (inl stands) none = inl (stands ∙ is)
  no_form why result (inl (is, formless, same)) (inr memory) none = inr memory
  no_form why result (inr (formed, end, is, h)) stands none = absurd (formed none)

pub line_reported : (old mid new : World) (line : List ℕ) → LeavesErr old mid → Reports mid new line
    → Reports old new line
line_reported old mid new line leaves (inl all) = inl (λ before told. all before (leaves.0 ∙ told))
line_reported old mid new line leaves (inr (rise, (count, front))) =
    inr (
      subst (λ n. Rises n new.err_faults) leaves.1 rise,
      (count, λ before told. front before (leaves.0 ∙ told)),
    )
