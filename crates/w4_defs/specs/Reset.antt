-- A reset of the console (WASM-4 reference for registers and entry functions; the order of events and what
-- follows a trap or a spent budget are project rules). What has no meaning, None here, stays so; an accepted
-- cart never comes to it.
use Rattle.std.specs.Prelude.{◌≡◌, ℕ, List, [], ◌∷◌, take, Option, Some, None, option_map, refl}
use Rattle.w4_defs.specs.declared.console.Halt.{Halt}
use Rattle.w4_defs.specs.declared.console.Halt.TheVariants.{Running, Trapped, Spent}
use Rattle.w4_defs.specs.Module.{DataSegment, WasmModule}
use Rattle.w4_defs.specs.Outcome.{Store, HostFunctions, Ended, RunDone, RunTrap, RunSpent, RunStuck}
use Rattle.w4_defs.specs.Program.{constant_of}
use Rattle.w4_defs.specs.Bytes.{put_bytes}
use Rattle.w4_defs.specs.Evaluation.{run_entry}
use Rattle.w4_defs.specs.Logs.{empty_log}
use Rattle.w4_defs.specs.Tones.{Channels, silent, all_aged, sounds_at}
use Rattle.w4_defs.specs.State.{State, zero_page, Moment, Board, LoggedState}
use Rattle.w4_defs.specs.EntryPoints.{start_functions, first_globals}

-- all that a run reads and doesn't change: the cart's module, the imports' weights and effects, the font's
-- bytes, and the budget of each reset and of each frame
pub record Setup : Type 0 where
  pub cart : WasmModule
  pub host_functions : HostFunctions Board
  pub font : List ℕ
  pub budget : ℕ

-- the palette e0f8cf, 86c06c, 306850, 071821; DRAW_COLORS 0x1203; mouse x and y 0x7fff
abbrev pub first_palette : List ℕ
first_palette =
    207 ∷ 248 ∷ 224 ∷ 0
    ∷ 108 ∷ 192 ∷ 134 ∷ 0
    ∷ 80 ∷ 104 ∷ 48 ∷ 0
    ∷ 33 ∷ 24 ∷ 7 ∷ 0
    ∷ []

abbrev pub first_colors : List ℕ
first_colors = 3 ∷ 18 ∷ []

abbrev pub first_mouse : List ℕ
first_mouse = 255 ∷ 127 ∷ 255 ∷ 127 ∷ []

-- zeros, and the registers' first values at 0x04, 0x14 and 0x1a
unfoldable pub first_page : List ℕ
first_page = put_bytes (put_bytes (put_bytes zero_page 4 first_palette) 20 first_colors) 26 first_mouse

-- the data segments, one after another
abbrev pub with_segments : List ℕ → List DataSegment → List ℕ
with_segments page [] = page
with_segments page (segment ∷ segments) =
    with_segments (put_bytes page (constant_of segment.offset) segment.bytes) segments

unfoldable pub start_page : WasmModule → List ℕ
start_page cart = with_segments first_page cart.segments

-- a state with empty logs, as a reset or a frame begins
abbrev pub with_empty_logs : State → LoggedState
with_empty_logs state = record { state = state; tones = empty_log; traces = empty_log }

-- the state before a reset's calls: only the disk is passed
abbrev pub fresh : WasmModule → List ℕ → State
fresh cart disk = record {
  page = start_page cart;
  globals = first_globals cart;
  channels = silent;
  disk = disk;
  halt = Running;
}

-- what an entry function works on, and what it leaves
abbrev pub store_of : List ℕ → LoggedState → Store Board
store_of font now = record {
  page = now.state.page;
  globals = now.state.globals;
  host = record {
    font = font;
    channels = now.state.channels;
    disk = now.state.disk;
    tones = now.tones;
    traces = now.traces;
  };
}

abbrev pub logged_state_after : Store Board → Halt → LoggedState
logged_state_after store halt = record {
  state = record {
    page = store.page;
    globals = store.globals;
    channels = store.host.channels;
    disk = store.host.disk;
    halt = halt;
  };
  tones = store.host.tones;
  traces = store.host.traces;
}

-- a trap or a spent budget sets halt, and what was written before stays; else it goes on with the rest
abbrev pub then_on : Ended Board → (LoggedState → ℕ → Option LoggedState) → Option LoggedState
then_on (RunDone store rest) go = go (logged_state_after store Running) rest
then_on (RunTrap cause store) go = Some (logged_state_after store (Trapped cause))
then_on (RunSpent store) go = Some (logged_state_after store Spent)
then_on RunStuck go = None

-- entry functions in order under one budget, up to the first that traps or is spent
abbrev pub call_all : Setup → List (Option ℕ) → LoggedState → ℕ → Option LoggedState
call_all setup [] now rest = Some now
call_all setup (None ∷ functions) now rest = call_all setup functions now rest
call_all setup (Some function ∷ functions) now rest =
    then_on (run_entry setup.cart setup.host_functions function (store_of setup.font now) rest)
    (λ now rest. call_all setup functions now rest)

-- the state and the logs that a reset leaves before its record is taken
unfoldable pub start : Setup → List ℕ → Option LoggedState
start setup disk =
    call_all setup (start_functions setup.cart) (with_empty_logs (fresh setup.cart disk)) setup.budget

-- the state with these channels
abbrev pub with_channels : State → Channels → State
with_channels state channels = record state { channels = channels }

-- the record has the logs and the four sounds at tick 0; then the channels age
abbrev pub recorded : LoggedState → Moment
recorded now = record {
  state = with_channels now.state (all_aged now.state.channels);
  frame_record = record { tones = now.tones; traces = now.traces; sounds = sounds_at 0 now.state.channels };
}

-- a reset with the disk that is passed: the state and the record at place 0
unfoldable pub reset : Setup → List ℕ → Option Moment
reset setup disk = option_map recorded (start setup disk)

-- the page's first 32 bytes before the data segments: its registers
abbrev pub FirstRegisters : Type 0
FirstRegisters = take 32 first_page ≡
    0 ∷ 0 ∷ 0 ∷ 0 ∷ 207 ∷ 248 ∷ 224 ∷ 0 ∷ 108 ∷ 192 ∷ 134 ∷ 0 ∷ 80 ∷ 104 ∷ 48 ∷ 0 ∷ 33 ∷ 24 ∷ 7 ∷ 0
    ∷ 3 ∷ 18 ∷ 0 ∷ 0 ∷ 0 ∷ 0 ∷ 255 ∷ 127 ∷ 255 ∷ 127 ∷ 0 ∷ 0 ∷ []

pub first-registers : FirstRegisters
unfolding first_page zero_page
first-registers = refl
