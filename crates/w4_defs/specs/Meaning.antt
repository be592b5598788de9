-- No reset and no frame of an accepted cart is ever stuck, whatever the font, the budget, the disk and the
-- inputs. A frame may begin in any state whose globals have the cart's types (as the Core Specification, in
-- the appendix on soundness, asks of a store): nothing is asked of its page, channels, disk and halt.
use Rattle.std.specs.Prelude.{ℕ, List, Option, IsSome, IsSomeAnd}
use Rattle.w4_defs.specs.declared.console.Input.{Input}
use Rattle.w4_defs.specs.Module.{WasmModule}
use Rattle.w4_defs.specs.Cart.{IsCart}
use Rattle.w4_defs.specs.Board.{console_setup}
use Rattle.w4_defs.specs.Frame.{frame}
use Rattle.w4_defs.specs.Reset.{reset}
use Rattle.w4_defs.specs.Run.{fold, run}
use Rattle.w4_defs.specs.State.{Moment, State, HasGlobals}

-- there is a moment, and a frame may begin in its state
abbrev pub LeadsOn : WasmModule → Option Moment → Type 0
LeadsOn m found = IsSomeAnd found (λ moment. HasGlobals m moment.state)

-- a run from reset is there at every place
abbrev pub RunsHaveMeaning : WasmModule → Type 0
RunsHaveMeaning m =
    (font : List ℕ) (budget : ℕ) (disk : List ℕ) (inputs : List Input) (place : ℕ)
    → IsSome (run (console_setup m font budget) disk inputs place)

-- each reset and each frame leads on; so inputs may be played from any such state, and runs have meaning
pub record FramesHaveMeaning (m : WasmModule) : Type 0 where
  pub resets : (font : List ℕ) (budget : ℕ) (disk : List ℕ)
      → LeadsOn m (reset (console_setup m font budget) disk)
  pub frames : (font : List ℕ) (budget : ℕ) (state : State) (input : Input) → HasGlobals m state
      → LeadsOn m (frame (console_setup m font budget) state input)
  pub folds : (font : List ℕ) (budget : ℕ) (state : State) (inputs : List Input) → HasGlobals m state
      → IsSomeAnd (fold (console_setup m font budget) state inputs) (HasGlobals m)
  pub runs : RunsHaveMeaning m

abbrev pub AcceptedRunsHaveMeaning : Type 0
AcceptedRunsHaveMeaning = (bytes : List ℕ) (m : WasmModule) → IsCart bytes m → FramesHaveMeaning m
