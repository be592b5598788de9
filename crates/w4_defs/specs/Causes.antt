-- What a status says of the world before and after, where a step on files is what the program does. A step
-- says which results the files allow.
use Rattle.std.specs.Prelude.{◌≡◌, ◌⊎◌, ◌<◌, ◌+◌, List, [], ◌∷◌, ℕ, ◌++◌, length, slice_get, take, Option, Some, Result, Ok, Err, ⊤}
use Rattle.std.specs.Option.{ForSome}
use Rattle.w4_defs.specs.declared.status.Finish.{Finish}
use Rattle.w4_defs.specs.declared.status.Refusal.{Refusal}
use Rattle.w4_defs.specs.declared.status.Refusal.TheVariants as refusal
use Rattle.w4_defs.specs.declared.status.Status.{Status}
use Rattle.w4_defs.specs.declared.status.Status.TheVariants as status
use Rattle.w4_defs.specs.Endings.{Manner, ReadFailed, InputFailed, WriteFailed, MemoryRefused, Refused, manner_of, status_of_finish, status_of_refusal}
use Rattle.w4_defs.specs.Output.{Output, all_events}
use Rattle.w4_defs.specs.StatusLines.{status_line}
use Rattle.w4_defs.specs.World.{Event, Took, InputEnded, InputLost, Files, World, Rises, Appends, AppendsFront, Does, FailsToSave, OutFails, SavesOrFails, not_saved}

-- a read failed, or a file whose turn came isn't among those that the house tells
abbrev pub ReadFails : {Y : Type 0} → World → World → (Files → Result Y Refusal → Type 0) → Type 0
ReadFails old new step = Rises old.read_faults new.read_faults
    ⊎ ((files : Files) × (old.files ≡ Some files) × step files (Err refusal.ReadFault))

-- where the house tells its files, the step is refused so
abbrev pub StepRefuses : {Y : Type 0} → World → Refusal → (Files → Result Y Refusal → Type 0) → Type 0
StepRefuses old why step = ForSome old.files (λ files. step files (Err why))

-- nothing was done, and all files are unchanged
abbrev pub LeavesOutputs : World → World → Type 0
LeavesOutputs old new = (new.events ≡ old.events) × (new.files ≡ old.files)

-- standard input is what is wanted next
abbrev pub WantsInput : Option Event → Type 0
WantsInput (Some (Took line)) = ⊤
WantsInput (Some InputEnded) = ⊤
WantsInput other = ⊥

-- so many of the events happened, and then the file was replaced that is saved after a stop
abbrev pub stopped_events : Output → ℕ → List Event
stopped_events output count = take count output.events ++ output.rescued count

-- more events were to come than so many, or nothing is saved after a stop
abbrev pub IsShort : Output → ℕ → Type 0
IsShort output count = (count < length output.events) ⊎ (output.rescued count ≡ [])

-- a write failed: one to standard output, however many saves had failed before, after which the file was
-- replaced that is saved after a stop, or that failed too; or, after a read of standard input that failed,
-- replacing this file; or replacing the one at the end
abbrev pub WritesPart : World → World → Output → Type 0
WritesPart old new output =
    ((count : ℕ) × IsShort output count
    × ((Does old new (stopped_events output count) × OutFails old new (stopped_events output count))
    ⊎ (FailsToSave old new (take count output.events) (output.rescued count)
    × OutFails old new (take count output.events ++ not_saved (output.rescued count)))))
    ⊎ (((count : ℕ) × WantsInput (slice_get output.events count) × Rises old.read_faults new.read_faults
    × FailsToSave old new (take count output.events ++ InputLost ∷ []) (output.rescued count))
    ⊎ FailsToSave old new output.events output.saved)

-- a read of standard input failed where a line was wanted, and then the file was replaced that is saved after
-- a stop
abbrev pub LosesInput : World → World → Output → Type 0
LosesInput old new output = (count : ℕ) × WantsInput (slice_get output.events count)
    × Does old new (take count output.events ++ InputLost ∷ output.rescued count)

-- memory ran out after so many of the events: no more has happened; or the file was replaced that is saved
-- after these or, where the last of them is a line whose edit wasn't made, after those before it; or
-- replacing it failed; or, where a line was wanted, what was read of it is lost, and no more has happened
-- since, or the file was replaced, or that failed
abbrev pub RunsOutAfter : World → World → Output → ℕ → Type 0
RunsOutAfter old new output count =
    Does old new (take count output.events)
    ⊎ (((before : ℕ) × ((before ≡ count) ⊎ (before + 1 ≡ count))
    × SavesOrFails old new (take count output.events) (output.rescued before))
    ⊎ (WantsInput (slice_get output.events count)
    × (Does old new (take count output.events ++ InputLost ∷ [])
    ⊎ SavesOrFails old new (take count output.events ++ InputLost ∷ []) (output.rescued count))))

-- how a step that wasn't done ended
abbrev pub EndsRefused : World → World → Manner → (Files → Result Output Refusal → Type 0) → Type 0
EndsRefused old new ReadFailed step = ReadFails old new step × LeavesOutputs old new
EndsRefused old new InputFailed step =
    Rises old.read_faults new.read_faults
    × ForSome old.files (λ files. (output : Output) × step files (Ok output) × LosesInput old new output)
EndsRefused old new WriteFailed step =
    Rises old.write_faults new.write_faults
    × ForSome old.files (λ files. (output : Output) × step files (Ok output) × WritesPart old new output)
EndsRefused old new MemoryRefused step =
    LeavesOutputs old new
    ⊎ ForSome old.files
    (λ files. (output : Output) × step files (Ok output) × (count : ℕ) × RunsOutAfter old new output count)
EndsRefused old new (Refused why) step = StepRefuses old why step × LeavesOutputs old new

-- all was done, with this finish
abbrev pub EndsWhole : World → World → Finish → (Files → Result Output Refusal → Type 0) → Type 0
EndsWhole old new finish step =
    ForSome old.files (λ files. (output : Output) × step files (Ok output) × (output.finish ≡ finish)
    × Does old new (all_events output))

-- how a whole step ended
abbrev pub Ends : World → World → Result Finish Refusal → (Files → Result Output Refusal → Type 0) → Type 0
Ends old new (Ok finish) step = EndsWhole old new finish step
Ends old new (Err why) step = EndsRefused old new (manner_of why) step

-- a refusal or a failed read of a file, after which nothing was done and all files are as they were
abbrev pub ChangesNothing : Status → Type 0
ChangesNothing status.Done = ⊥
ChangesNothing status.Different = ⊥
ChangesNothing status.InputFault = ⊥
ChangesNothing status.WriteFault = ⊥
ChangesNothing status.OutOfMemory = ⊥
ChangesNothing other = ⊤

-- all was done, with a difference or without
abbrev pub IsWhole : Status → Type 0
IsWhole status.Done = ⊤
IsWhole status.Different = ⊤
IsWhole other = ⊥

-- statuses whose line is on standard error
abbrev pub IsReported : Status → Type 0
IsReported status.Done = ⊥
IsReported status.Different = ⊥
IsReported status.OutOfMemory = ⊥
IsReported other = ⊤

-- where told, standard error has got the line, or a first part of it where a write to it failed
abbrev pub Reports : World → World → List ℕ → Type 0
Reports old new line = Appends old.err new.err line
    ⊎ (Rises old.err_faults new.err_faults × AppendsFront old.err new.err line)

-- the status of what the program does
abbrev pub status_of : Result Output Refusal → Status
status_of (Ok output) = status_of_finish output.finish
status_of (Err why) = status_of_refusal why

-- memory ran out, no form has these words, or the status is that of a result which the step allows
abbrev pub IsExact : Status → Type 0 → (Result Output Refusal → Type 0) → Type 0
IsExact result NoForm step =
    (result ≡ status.OutOfMemory) ⊎ (((result ≡ status.Usage) × NoForm)
    ⊎ ((output : Result Output Refusal) × step output × (result ≡ status_of output)))

-- nothing was written to standard error
abbrev pub LeavesErr : World → World → Type 0
LeavesErr old new = (new.err ≡ old.err) × (new.err_faults ≡ old.err_faults)

-- memory ran out, in the work or while its status was reported: what stands is what that status says, and
-- standard error has got a first part of its line. Only words without a form are refused as such
abbrev pub IsCutShort : World → World → Type 0 → (Files → Result Output Refusal → Type 0) → Type 0
IsCutShort old new NoForm step =
    (NoForm × LeavesOutputs old new × AppendsFront old.err new.err (status_line status.Usage))
    ⊎ ((why : Refusal) × EndsRefused old new (manner_of why) step
    × AppendsFront old.err new.err (status_line (status_of_refusal why)))
