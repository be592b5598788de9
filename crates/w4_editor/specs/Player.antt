-- What plays a recording: a cart, a font, the budget of the reset and of each frame, and the state that it
-- is in.
use Rattle.std.specs.Prelude.{ℕ, ◌≤◌, List}
use Rattle.w4_defs.specs.Board.{console_setup}
use Rattle.w4_defs.specs.Module.{WasmModule}
use Rattle.w4_defs.specs.Reset.{Setup}
use Rattle.w4_defs.specs.EntryPoints.{first_globals}
use Rattle.w4_defs.specs.State.{State, blank_state, HasGlobals}

pub record Player : Type 0 where
  pub cart : WasmModule
  pub font : List ℕ
  pub budget : ℕ
  pub state : State

-- all that its runs have in common
abbrev pub player_setup : Player → Setup
player_setup player = console_setup player.cart player.font player.budget

-- the same player in another state
abbrev pub in_state : Player → State → Player
in_state player state =
    record { cart = player.cart; font = player.font; budget = player.budget; state = state }

-- a budget of at least 1, and globals of the cart's types, the first ones and those of the state
pub record IsPlayer (player : Player) : Type 0 where
  pub budget : 1 ≤ player.budget
  pub first : HasGlobals player.cart (blank_state (first_globals player.cart))
  pub globals : HasGlobals player.cart player.state
