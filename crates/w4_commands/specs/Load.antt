-- What reading gives, as the definitions see it: a step as a function of the files, and why it stopped; what
-- a judge of bytes gives; what was read.
use Rattle.std.specs.Prelude.{◌≡◌, Result, Ok, Err, ⊤}
use Rattle.std.specs.Option.{ForSome}
use Rattle.w4_defs.specs.declared.status.Refusal.{Refusal}
use Rattle.w4_defs.specs.Causes.{ReadFails, StepRefuses}
use Rattle.w4_defs.specs.Endings.{Manner, ReadFailed, InputFailed, WriteFailed, MemoryRefused, Refused}
use Rattle.w4_defs.specs.Endings.{manner_of}
use Rattle.w4_defs.specs.World.{Files, World}
use Rattle.w4_cart.specs.declared.acceptance.CartFile.{CartFile}
use Rattle.w4_commands.specs.declared.load.RunFiles.{RunFiles}
use Rattle.w4_defs.specs.Output.{CartFile as GivenCart, Played as Given}

-- a step that is a function of the files
abbrev pub ResultsIn : {Y : Type 0} → (Files → Result Y Refusal) → Files → Result Y Refusal → Type 0
ResultsIn step files result = step files ≡ result

-- why a step that only reads stopped
abbrev pub Stops : {Y : Type 0} → World → World → Manner → (Files → Result Y Refusal → Type 0) → Type 0
Stops old new InputFailed step = ⊥
Stops old new ReadFailed step = ReadFails old new step
Stops old new WriteFailed step = ⊥
Stops old new MemoryRefused step = ⊤
Stops old new (Refused refusal) step = StepRefuses old refusal step

-- what such a step gave
abbrev pub StepGives : {X Y : Type 0} → World → World → (X → Y) → Result X Refusal
    → (Files → Result Y Refusal → Type 0) → Type 0
StepGives old new view (Ok x) step = ForSome old.files (λ files. step files (Ok (view x)))
StepGives old new view (Err why) step = Stops old new (manner_of why) step

abbrev pub GivesRefusal : {Y : Type 0} → Manner → Result Y Refusal → Type 0
GivesRefusal InputFailed output = ⊥
GivesRefusal ReadFailed output = ⊥
GivesRefusal WriteFailed output = ⊥
GivesRefusal MemoryRefused output = ⊤
GivesRefusal (Refused refusal) output = output ≡ Err refusal

abbrev pub GivesValue : {X Y : Type 0} → (X → Y) → Result X Refusal → Result Y Refusal → Type 0
GivesValue view (Ok x) output = output ≡ Ok (view x)
GivesValue view (Err status) output = GivesRefusal (manner_of status) output

abbrev pub cart_view : CartFile → GivenCart
cart_view c = record { code = c.cart; digest = c.digest }

abbrev pub run_files_view : RunFiles → Given
run_files_view p = record { recording = p.recording; font = p.font }
