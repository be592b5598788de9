-- Laws of units: where a reset or a frame is there, so are its units, and they tell how its calls ended.
use Rattle.std.specs.Prelude.{◌≡◌, ℕ, ◌≤◌, List, Some, IsSomeAnd, ⊤}
use Rattle.w4_defs.specs.declared.console.Halt.{Halt}
use Rattle.w4_defs.specs.declared.console.Halt.TheVariants.{Running, Trapped, Spent}
use Rattle.w4_defs.specs.declared.console.Input.{Input}
use Rattle.w4_defs.specs.Frame.{before_update, frame}
use Rattle.w4_defs.specs.Reset.{Setup, reset}
use Rattle.w4_defs.specs.State.{LoggedState, Moment, State}
use Rattle.w4_defs.specs.Units.{Taken, TookUnits, WasHalted, DidTrap, WasSpent, frame_units, start_units}

-- what calls take of a budget, by the halt that they leave: a number, at most the budget, if and only if the
-- console still runs
abbrev pub TellsEnd : ℕ → Halt → Taken → Type 0
TellsEnd budget Running (TookUnits units) = units ≤ budget
TellsEnd budget (Trapped cause) DidTrap = ⊤
TellsEnd budget Spent WasSpent = ⊤
TellsEnd budget after taken = ⊥

-- the same of a frame, by the halt before its `update` and the one after it: a halted console stays so
abbrev pub TellsFrame : ℕ → Halt → Halt → Taken → Type 0
TellsFrame budget Running after taken = TellsEnd budget after taken
TellsFrame budget before after WasHalted = after ≡ before
TellsFrame budget before after taken = ⊥

abbrev pub ResetsHaveUnits : Type 0
ResetsHaveUnits = (setup : Setup) (disk : List ℕ) (moment : Moment) → reset setup disk ≡ Some moment
    → IsSomeAnd (start_units setup disk) (TellsEnd setup.budget moment.state.halt)

-- of a frame with a reset the halt before `update` is the one that the reset leaves
abbrev pub FramesHaveUnits : Type 0
FramesHaveUnits = (setup : Setup) (state : State) (input : Input) (before : LoggedState) (moment : Moment)
    → before_update setup state input ≡ Some before → frame setup state input ≡ Some moment
    → IsSomeAnd (frame_units setup state input) (TellsFrame setup.budget before.state.halt moment.state.halt)
