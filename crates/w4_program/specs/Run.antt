-- How the words were obeyed, before that is reported.
use Rattle.std.specs.Prelude.{◌≡◌, ◌⊎◌, Result, Ok, Err}
use Rattle.w4_defs.specs.declared.status.Finish.{Finish}
use Rattle.w4_defs.specs.declared.status.Refusal.{Refusal}
use Rattle.w4_defs.specs.declared.status.Status.{Status}
use Rattle.w4_defs.specs.declared.status.Status.TheVariants.{Usage}
use Rattle.w4_defs.specs.Causes.{Ends, LeavesOutputs}
use Rattle.w4_defs.specs.Endings.{status_of_finish, status_of_refusal}
use Rattle.w4_defs.specs.Output.{Output}
use Rattle.w4_defs.specs.World.{Files, World}

abbrev pub status_of_end : Result Finish Refusal → Status
status_of_end (Ok finish) = status_of_finish finish
status_of_end (Err why) = status_of_refusal why

-- no form has the words, which are refused, and nothing was done; or one has them, and the status is that of
-- how the step ended
abbrev pub IsObeyed : World → World → Status → Type 0 → (Files → Result Output Refusal → Type 0) → Type 0
IsObeyed old new status NoForm step =
    ((status ≡ Usage) × NoForm × LeavesOutputs old new)
    ⊎ ((¬ NoForm) × (end : Result Finish Refusal) × (status ≡ status_of_end end) × Ends old new end step)
