-- How a command ended that finds no difference, and a step that runs a cart.
use Rattle.std.specs.Prelude.{◌≡◌, Option, Some, Result, Ok, Err}
use Rattle.w4_defs.specs.declared.status.Finish.{Finish}
use Rattle.w4_defs.specs.declared.status.Finish.TheVariants.{Done}
use Rattle.w4_defs.specs.declared.status.Refusal.{Refusal}
use Rattle.w4_defs.specs.Causes.{Ends}
use Rattle.w4_defs.specs.Output.{Output}
use Rattle.w4_defs.specs.World.{Files, World}

-- a step that runs a cart, which gives nothing where the run has no meaning
abbrev pub MakesOf : {Y : Type 0} → (Files → Option (Result Y Refusal)) → Files → Result Y Refusal → Type 0
MakesOf step files result = step files ≡ Some result

-- a command that finds no difference
abbrev pub finished : {X : Type 0} → Result X Refusal → Result Finish Refusal
finished (Ok x) = Ok Done
finished (Err why) = Err why

-- how such a command ended
abbrev pub EndsDone : {X : Type 0} → World → World → Result X Refusal
    → (Files → Result Output Refusal → Type 0) → Type 0
EndsDone old new result step = Ends old new (finished result) step
