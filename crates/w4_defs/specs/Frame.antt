-- A frame of the console (WASM-4 reference for registers and `update`; the order of events and what follows
-- a trap or a spent budget are project rules). A halted console leaves halt by a reset alone.
use Rattle.std.specs.Prelude.{length, ◌≡◌, ◌≢◌, true, false, ℕ, List, replicate, Option, Some, None, option_map, option_and_then, if◌then◌else◌}
use Rattle.w4_defs.specs.declared.console.Halt.{Halt}
use Rattle.w4_defs.specs.declared.console.Halt.TheVariants.{Running, Trapped, Spent}
use Rattle.w4_defs.specs.declared.console.Input.{Input}
use Rattle.w4_defs.specs.Bytes.{replaced}
use Rattle.w4_defs.specs.Evaluation.{run_entry}
use Rattle.w4_defs.specs.MemoryMap.{put_input, keeps_framebuffer}
use Rattle.w4_defs.specs.Framebuffer.{paint}
use Rattle.w4_defs.specs.State.{page_size, State, Moment, LoggedState}
use Rattle.w4_defs.specs.EntryPoints.{update_entry}
use Rattle.w4_defs.specs.Reset.{Setup, with_empty_logs, store_of, then_on, start, recorded}

-- all pixels of the framebuffer 0
unfoldable pub cleared : List ℕ → List ℕ
cleared page = replaced page 160 6400 (replicate 6400 0)

-- in the words of painting: a painter that makes every pixel 0
abbrev pub ClearedIsPainted : Type 0
ClearedIsPainted = (page : List ℕ) → length page ≡ page_size → cleared page ≡ paint page (λ x y. Some 0)

-- the page as `update` finds it: the input is written, and the framebuffer cleared unless it is kept
abbrev pub page_after_input : List ℕ → Input → List ℕ
page_after_input page input =
    let next = put_input page input in
    if keeps_framebuffer next then next else cleared next

abbrev pub state_with_page : State → List ℕ → State
state_with_page state page = record state { page = page }

-- the call of `update` with the whole budget
abbrev pub call_update : Setup → Option ℕ → LoggedState → Option LoggedState
call_update setup None now = None
call_update setup (Some function) now =
    then_on (run_entry setup.cart setup.host_functions function (store_of setup.font now) setup.budget)
    (λ now rest. Some now)

-- what `update` finds: the input is in the page
abbrev pub with_input : Input → LoggedState → LoggedState
with_input input now =
    record now { state = state_with_page now.state (page_after_input now.state.page input) }

-- while the cart runs, the input and `update`; a halted cart is left as it is
abbrev pub update_from : Setup → Input → LoggedState → Halt → Option LoggedState
update_from setup input now Running = call_update setup (update_entry setup.cart) (with_input input now)
update_from setup input now (Trapped cause) = Some now
update_from setup input now Spent = Some now

abbrev pub update : Setup → Input → LoggedState → Option LoggedState
update setup input now = update_from setup input now now.state.halt

-- a frame whose input has a reset begins with one that keeps the state's own disk, and with its logs
abbrev pub before_update : Setup → State → Input → Option LoggedState
before_update setup state input = if input.reset then start setup state.disk else Some (with_empty_logs state)

-- a frame: the next state and its record
unfoldable pub frame : Setup → State → Input → Option Moment
frame setup state input =
    option_map recorded (option_and_then (update setup input) (before_update setup state input))

-- a halted console is left as it is but for the ageing of its channels, unless the input has a reset
abbrev pub HaltStays : Type 0
HaltStays = (setup : Setup) (state : State) (input : Input) → input.reset ≡ false → state.halt ≢ Running →
    frame setup state input ≡ Some (recorded (with_empty_logs state))

-- a frame with a reset forgets all of the state but its disk
abbrev pub ResetKeepsDisk : Type 0
ResetKeepsDisk =
    (setup : Setup) (state other : State) (input : Input) → input.reset ≡ true → state.disk ≡ other.disk →
    frame setup state input ≡ frame setup other input
