-- What a session may have done where memory ran out, case by case.
use Rattle.std.proofs.Common.{◌≡◌, ◌⊎◌, ◌+◌, ℕ, inl, inr, [], ◌∷◌, ◌++◌, take}
use Rattle.std.specs.Prelude.{slice_get}
use Rattle.w4_defs.specs.Causes.{RunsOutAfter, WantsInput}
use Rattle.w4_defs.specs.Output.{Output}
use Rattle.w4_defs.specs.World.{InputLost, World, Does, SavesOrFails}

module _ (old new : World) (output : Output) (count : ℕ) where
  -- no more has happened
  pub ran_out : Does old new (take count output.events) → RunsOutAfter old new output count
  ran_out does = inl does

  -- a file was replaced that is saved after so many events, or it wasn't
  pub ran_out_saved : (before : ℕ) → (before ≡ count) ⊎ (before + 1 ≡ count)
      → SavesOrFails old new (take count output.events) (output.rescued before)
      → RunsOutAfter old new output count
  ran_out_saved before near h = inr (inl (before, near, h))

  -- what was read of a line is lost, and no more has happened
  pub ran_out_lost : WantsInput (slice_get output.events count)
      → Does old new (take count output.events ++ InputLost ∷ []) → RunsOutAfter old new output count
  ran_out_lost wants does = inr (inr (wants, inl does))

  -- or a file was replaced after that, or it wasn't
  pub ran_out_lost_saved : WantsInput (slice_get output.events count)
      → SavesOrFails old new (take count output.events ++ InputLost ∷ []) (output.rescued count)
      → RunsOutAfter old new output count
  ran_out_lost_saved wants h = inr (inr (wants, inr h))
