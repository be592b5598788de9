-- What frames and resets take of their budgets, as this crate's types tell it.
use Rattle.std.specs.Prelude.{◌≡◌, ℕ, ◌-◌, List, Some, option_map, Result, Ok, Err}
use Rattle.w4_defs.specs.declared.console.Input.{Input}
use Rattle.w4_defs.specs.PlaceTexts.{PieceForm}
use Rattle.w4_defs.specs.Reset.{Setup}
use Rattle.w4_defs.specs.State.{State}
use Rattle.w4_defs.specs.Units.{Taken as Told, TookUnits, WasHalted, DidTrap, WasSpent, frame_units}
use Rattle.w4_defs.specs.Units.{reset_units, units_at, units_line}
use Rattle.w4_console.specs.declared.taken.FrameTaken.{FrameTaken}
use Rattle.w4_console.specs.declared.taken.Stop.{Stop}
use Rattle.w4_console.specs.declared.taken.Stop.TheVariants as stop
use Rattle.w4_console.specs.declared.taken.Taken.{Taken}
use Rattle.w4_console.specs.declared.taken.Taken.TheVariants as taken

-- in the words of the definition
abbrev pub taken_of : Taken → Told
taken_of (taken.Units units) = TookUnits units
taken_of taken.Halted = WasHalted
taken_of taken.Trapped = DidTrap
taken_of taken.Spent = WasSpent

-- what is told of calls of which the last was stopped
abbrev pub taken_at_stop : Stop → Told
taken_at_stop stop.Trapped = DidTrap
taken_at_stop stop.Spent = WasSpent

-- by the rest that calls leave, or by what stopped them
abbrev pub taken_by_calls_of : ℕ → Result ℕ Stop → Told
taken_by_calls_of budget (Ok rest) = TookUnits (budget - rest)
taken_by_calls_of budget (Err why) = taken_at_stop why

-- a frame from this state and by this input takes so much
abbrev pub FrameTakes : Setup → State → Input → FrameTaken → Type 0
FrameTakes setup state input taken =
    (frame_units setup state input ≡ Some (taken_of taken.update))
    × (reset_units setup state input ≡ Some (option_map taken_of taken.start))

-- its line
abbrev pub frame_line : ℕ → FrameTaken → List ℕ
frame_line k taken = units_line k (taken_of taken.update) (option_map taken_of taken.start)

-- this is the line of frame K of a run, in each form
abbrev pub TellsUnits : Setup → List ℕ → List Input → ℕ → FrameTaken → Type 0
TellsUnits setup disk inputs k taken = (form : PieceForm)
    → units_at form setup disk inputs k ≡ Some (form (frame_line k taken))
