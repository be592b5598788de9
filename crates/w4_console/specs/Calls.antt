-- What the calls of a reset or a frame come to: the state so far, and the logs that its record has so far.
use Rattle.std.specs.Prelude.{◌≡◌, ℕ, List, ◌∷◌, Option, Some, Result, Ok, Err}
use Rattle.w4_defs.specs.declared.console.Halt.{Halt}
use Rattle.w4_defs.specs.declared.console.Halt.TheVariants.{Running, Trapped, Spent}
use Rattle.w4_defs.specs.Board.{console, console_setup}
use Rattle.w4_defs.specs.Evaluation.{run_entry}
use Rattle.w4_defs.specs.Module.{WasmModule}
use Rattle.w4_defs.specs.Reset.{Setup as Defined, call_all, store_of, then_on}
use Rattle.w4_defs.specs.State.{State, Moment, LoggedState}
use Rattle.w4_defs.specs.Units.{Taken, taken_by_calls, then_taken}
use Rattle.w4_console.specs.declared.setup.Setup.{Setup}
use Rattle.w4_console.specs.declared.taken.Stop.{Stop}
use Rattle.w4_console.specs.declared.taken.Stop.TheVariants as stop
use Rattle.w4_console.specs.Taken.{taken_at_stop}
use Rattle.w4_devices.specs.declared.frame_record.FrameRecord.{FrameRecord as Record}
use Rattle.w4_devices.specs.Records.{record_of}
use Rattle.wasm_laws.specs.declared.ending.Ending.{Ending}
use Rattle.wasm_laws.specs.declared.ending.Ending.TheVariants as ending

-- what a run reads, as the definitions see it
abbrev pub setup_of : Setup → Defined
setup_of s = console_setup s.cart.now s.font.now s.budget

-- the state and the logs so far
abbrev pub so_far : State → Record → LoggedState
so_far state frame_record = record { state = state; tones = frame_record.tones; traces = frame_record.traces }

-- the state and the record at the end
abbrev pub moment : State → Record → Moment
moment state frame_record = record { state = state; frame_record = record_of frame_record }

-- whether the cart still runs after a call that ended so, and the rest of the budget where it does
abbrev pub halt_after : Ending → Halt
halt_after (ending.Done rest) = Running
halt_after (ending.Trap cause) = Trapped cause
halt_after ending.Spent = Spent

abbrev pub rest_after : Ending → Result ℕ Stop
rest_after (ending.Done rest) = Ok rest
rest_after (ending.Trap cause) = Err stop.Trapped
rest_after ending.Spent = Err stop.Spent

-- where a rest is left it goes on, and else this is the end
abbrev pub gone_on : Result ℕ Stop → LoggedState → (LoggedState → ℕ → Option LoggedState) → Option LoggedState
gone_on (Ok rest) now go = go now rest
gone_on (Err why) now go = Some now

-- and what is told of the units that were taken
abbrev pub units_on : Result ℕ Stop → LoggedState → (LoggedState → ℕ → Option Taken) → Option Taken
units_on (Ok rest) now go = go now rest
units_on (Err why) now go = Some (taken_at_stop why)

-- a call of a function comes from one of these to the other, and with this rest
abbrev pub IsCalled : WasmModule → List ℕ → ℕ → LoggedState → ℕ → Result ℕ Stop → LoggedState → Type 0
IsCalled cart font function now budget rest next = (go : LoggedState → ℕ → Option LoggedState)
    → then_on (run_entry cart console function (store_of font now) budget) go ≡ gone_on rest next go

abbrev pub TakesUnits : WasmModule → List ℕ → ℕ → LoggedState → ℕ → Result ℕ Stop → LoggedState → Type 0
TakesUnits cart font function now budget rest next = (go : LoggedState → ℕ → Option Taken)
    → then_taken (run_entry cart console function (store_of font now) budget) go ≡ units_on rest next go

-- a function, where there is one, is called before others
abbrev pub IsCalledFirst : WasmModule → List ℕ → Option ℕ → LoggedState → ℕ → Result ℕ Stop → LoggedState
    → Type 0
IsCalledFirst cart font function now budget rest next = (functions : List (Option ℕ)) (whole : ℕ)
    → call_all (console_setup cart font whole) (function ∷ functions) now budget
    ≡ gone_on rest next (call_all (console_setup cart font whole) functions)

abbrev pub TakesUnitsFirst : WasmModule → List ℕ → Option ℕ → LoggedState → ℕ → Result ℕ Stop → LoggedState
    → Type 0
TakesUnitsFirst cart font function now budget rest next = (functions : List (Option ℕ)) (whole : ℕ)
    → taken_by_calls (console_setup cart font whole) (function ∷ functions) now budget
    ≡ units_on rest next (taken_by_calls (console_setup cart font whole) functions)
