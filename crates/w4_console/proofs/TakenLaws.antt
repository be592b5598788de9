-- The line that tells of a frame of a run.
use Rattle.std.proofs.Common.{◌≡◌, ℕ, List, Option, Some, ap, ◌∙◌, option_map}
use Rattle.std.specs.List.{slice_get}
use Rattle.w4_defs.specs.declared.console.Input.{Input}
use Rattle.w4_defs.specs.Reading.{◌>>=◌}
use Rattle.w4_defs.specs.Reset.{Setup}
use Rattle.w4_defs.specs.Run.{run_state}
use Rattle.w4_defs.specs.State.{State}
use Rattle.w4_defs.specs.Units.{frame_units, reset_units, units_line}
use Rattle.w4_console.specs.declared.taken.FrameTaken.{FrameTaken}
use Rattle.w4_console.specs.Taken.{FrameTakes, taken_of, TellsUnits}

goes_on : {A B : Type 0} (o : Option A) (f : A → Option B) (x : A) → o ≡ Some x → (o >>= f) ≡ f x
goes_on o f x e = ap (λ p. p >>= f) e

pub units_told : (setup : Setup) (disk : List ℕ) (inputs : List Input) (k : ℕ) (state : State) (input : Input)
    (taken : FrameTaken)
    → run_state setup disk inputs k ≡ Some state → slice_get inputs k ≡ Some input
    → FrameTakes setup state input taken
    → TellsUnits setup disk inputs k taken
units_told setup disk inputs k state input taken here is takes form =
    goes_on (run_state setup disk inputs k) _ state here
    ∙ goes_on (slice_get inputs k) _ input is
    ∙ goes_on (frame_units setup state input) _ (taken_of taken.update) takes.0
    ∙ goes_on (reset_units setup state input)
    (λ start. Some (form (units_line k (taken_of taken.update) start)))
    (option_map taken_of taken.start) takes.1
