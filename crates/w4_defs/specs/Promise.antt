-- What the top call promises, for every implementation of the house: the world before and after, the words,
-- and the status that it gives. Any status may give way to OutOfMemory.
use Rattle.std.specs.Prelude.{◌≡◌, ◌⊎◌, ℕ, List, None, Ok}
use Rattle.std.specs.Option.{ForSome}
use Rattle.w4_defs.specs.declared.refusal.CartKind.{CartKind}
use Rattle.w4_defs.specs.declared.status.Finish.{Finish}
use Rattle.w4_defs.specs.declared.status.Finish.TheVariants as finish
use Rattle.w4_defs.specs.declared.status.RecordingKind.{RecordingKind}
use Rattle.w4_defs.specs.declared.status.Refusal.TheVariants as refusal
use Rattle.w4_defs.specs.declared.status.ScriptKind.{ScriptKind}
use Rattle.w4_defs.specs.declared.status.Status.{Status}
use Rattle.w4_defs.specs.declared.status.Status.TheVariants.{Done, Different, Usage, CartRefused, RecordingRefused, FontRefused, ScriptRefused, ReadFault, InputFault, WriteFault, OutOfMemory, FrameRefused, ListRefused}
use Rattle.w4_defs.specs.CartRuns.{CartRunsHaveMeaning}
use Rattle.w4_defs.specs.Causes.{ReadFails, StepRefuses, IsCutShort, IsExact, IsWhole, LosesInput, WritesPart, ChangesNothing, IsReported, Reports}
use Rattle.w4_defs.specs.Commands.{Form, Compare, form_of}
use Rattle.w4_defs.specs.Completeness.{IsComplete}
use Rattle.w4_defs.specs.Output.{Output, all_events}
use Rattle.w4_defs.specs.Outputs.{Outputs}
use Rattle.w4_defs.specs.StatusLines.{status_line}
use Rattle.w4_defs.specs.World.{World, Rises, Does}

-- neither a read nor a write failed
abbrev pub NoFault : World → World → Type 0
NoFault old new = ¬ Rises old.read_faults new.read_faults × ¬ Rises old.write_faults new.write_faults

-- all was done that the definition says, with this finish: each byte is written and OUT is replaced, in the
-- definition's order, and no other file has changed. Each reset, frame and run of the carts has a meaning, be
-- they named or made
abbrev pub AllIsDone : World → World → List (List ℕ) → Finish → Type 0
AllIsDone old new words wanted = ForSome old.files (λ files. (output : Output)
    × Outputs words files (Ok output) × (output.finish ≡ wanted) × Does old new (all_events output)
    × CartRunsHaveMeaning words files)

-- `compare` is done where it tells of a difference too
abbrev pub IsDoneBy : Form → Status → Type 0
IsDoneBy (Compare words) result = IsWhole result
IsDoneBy form result = result ≡ Done

pub record KeepsPromise (old new : World) (words : List (List ℕ)) (result : Status) : Type 0 where
  pub done : result ≡ Done → AllIsDone old new words finish.Done
  -- The two runs that were compared differ.
  pub different : result ≡ Different → AllIsDone old new words finish.Different
  pub no_line : IsWhole result → new.err ≡ old.err
  -- Words that have no form are refused over every house, and no others are.
  pub usage : result ≡ Usage → form_of words ≡ None
  pub no_form : form_of words ≡ None → (result ≡ Usage) ⊎ (result ≡ OutOfMemory)
  -- A refusal is the definition's, with its cause.
  pub cart_refused : (kind : CartKind) → result ≡ CartRefused kind
      → StepRefuses old (refusal.CartRefused kind) (Outputs words)
  pub recording_refused : (kind : RecordingKind) → result ≡ RecordingRefused kind
      → StepRefuses old (refusal.RecordingRefused kind) (Outputs words)
  pub font_refused : result ≡ FontRefused → StepRefuses old refusal.FontRefused (Outputs words)
  pub script_refused : (kind : ScriptKind) → result ≡ ScriptRefused kind
      → StepRefuses old (refusal.ScriptRefused kind) (Outputs words)
  pub frame_refused : (number n : ℕ) → result ≡ FrameRefused number n
      → StepRefuses old (refusal.FrameRefused number n) (Outputs words)
  pub list_refused : (kind : ScriptKind) → result ≡ ListRefused kind
      → StepRefuses old (refusal.ListRefused kind) (Outputs words)
  -- A read of a file failed, or a file whose turn came is absent.
  pub read_fault : result ≡ ReadFault → ReadFails old new (Outputs words)
  -- A read of standard input failed. All lines that were taken are answered, and OUT is the recording that
  -- they leave.
  pub input_fault : result ≡ InputFault → Rises old.read_faults new.read_faults
  pub input_fault_output : result ≡ InputFault → ForSome old.files (λ files. (output : Output)
      × Outputs words files (Ok output) × LosesInput old new output)
  -- It comes only where a write failed, and the definition has an output. A write to standard output failed
  -- when a first part of its events had happened, and a session has then saved OUT as the lines taken leave
  -- it, or that failed too; or OUT couldn't be replaced after a read of standard input that failed, or at the
  -- end, when all else was done.
  pub write_fault : result ≡ WriteFault → Rises old.write_faults new.write_faults
  pub write_fault_output : result ≡ WriteFault → ForSome old.files (λ files. (output : Output)
      × Outputs words files (Ok output) × WritesPart old new output)
  -- Memory ran out in the work, or while its status was reported: what stands is what that status says, and
  -- standard error has got a first part of its line.
  pub out_of_memory : result ≡ OutOfMemory → IsCutShort old new (form_of words ≡ None) (Outputs words)
  -- A refusal or a failed read of a file takes no line, and leaves standard output and all files.
  pub refused_out : ChangesNothing result → new.events ≡ old.events
  pub refused_files : ChangesNothing result → new.files ≡ old.files
  -- Standard error gets the status's line, or a first part of it where a write to it failed.
  pub line : IsReported result → Reports old new (status_line result)
  -- Where neither a read nor a write failed, it is the definition's answer, or memory ran out.
  pub exact : ForSome old.files (λ files. NoFault old new
      → IsExact result (form_of words ≡ None) (Outputs words files))
  -- Where besides all that the words name is there, all is done, or memory ran out.
  pub complete : ForSome old.files (λ files. NoFault old new
      → ForSome (form_of words) (λ form. IsComplete form files
      → IsDoneBy form result ⊎ (result ≡ OutOfMemory)))
