-- Units (project rule): what the frames and resets of a run took of their budgets. Of a frame of a console
-- that is halted this is said in place of a number. The line of frame K is `units K U`, and ` start S` after
-- it where its input has a reset, of which S tells; each ends with byte 10.
use Rattle.std.specs.Prelude.{◌≡◌, ℕ, ◌-◌, Bool, true, false, List, [], ◌∷◌, ◌++◌, length, slice_get, codes, decimal, option_map, option_and_then, Option, Some, None, if◌then◌else◌, pos, refl}
use Rattle.std.specs.Fmt.{digits}
use Rattle.w4_defs.specs.declared.console.Halt.{Halt}
use Rattle.w4_defs.specs.declared.console.Halt.TheVariants.{Running, Trapped, Spent}
use Rattle.w4_defs.specs.declared.console.Input.{Input}
use Rattle.w4_defs.specs.declared.module.ExportKind.TheVariants as export
use Rattle.w4_defs.specs.declared.operation.Op.TheVariants as op
use Rattle.w4_defs.specs.AllThere.{joined}
use Rattle.w4_defs.specs.Board.{console_setup}
use Rattle.w4_defs.specs.EmptyCart.{empty_module}
use Rattle.w4_defs.specs.EntryPoints.{start_functions, update_entry}
use Rattle.w4_defs.specs.Evaluation.{eval, eval_within, run_entry}
use Rattle.w4_defs.specs.Frame.{before_update, cleared, frame, with_input}
use Rattle.w4_defs.specs.FrameTexts.{spaced, line_end}
use Rattle.w4_defs.specs.Module.{WasmModule}
use Rattle.w4_defs.specs.Outcome.{Ended, RunDone, RunTrap, RunSpent, RunStuck}
use Rattle.w4_defs.specs.PlaceTexts.{PieceForm, as_it_stands, place_texts}
use Rattle.w4_defs.specs.Reading.{◌>>=◌}
use Rattle.w4_defs.specs.Reset.{Setup, first_page, fresh, logged_state_after, reset, start, start_page, store_of, with_empty_logs}
use Rattle.w4_defs.specs.Run.{run_state}
use Rattle.w4_defs.specs.State.{State, Board, LoggedState, zero_page}
use Rattle.w4_defs.specs.Tree.{Expr, done, loop, sequence}

-- so many units where the calls ended normally; or the console was halted before; or the cart trapped; or the
-- budget was spent
pub data Taken : Type 0 where
  TookUnits : (units : ℕ) → Taken
  WasHalted : Taken
  DidTrap : Taken
  WasSpent : Taken

-- ---- a frame

-- of a call with this budget; None where it has no meaning
abbrev pub taken_by : ℕ → Ended Board → Option Taken
taken_by budget (RunDone store rest) = Some (TookUnits (budget - rest))
taken_by budget (RunTrap cause store) = Some DidTrap
taken_by budget (RunSpent store) = Some WasSpent
taken_by budget RunStuck = None

abbrev pub taken_by_update : Setup → LoggedState → Option ℕ → Option Taken
taken_by_update setup now None = None
taken_by_update setup now (Some function) = taken_by setup.budget
    (run_entry setup.cart setup.host_functions function (store_of setup.font now) setup.budget)

abbrev pub taken_from : Setup → Input → LoggedState → Halt → Option Taken
taken_from setup input now Running = taken_by_update setup (with_input input now) (update_entry setup.cart)
taken_from setup input now (Trapped cause) = Some WasHalted
taken_from setup input now Spent = Some WasHalted

-- what a frame takes, from a state and by an input; a reset that it begins with isn't counted
abbrev pub frame_units : Setup → State → Input → Option Taken
frame_units setup state input =
    option_and_then (λ now. taken_from setup input now now.state.halt) (before_update setup state input)

-- ---- a reset: its calls have one budget, and the first that doesn't end normally is the last

abbrev pub then_taken : Ended Board → (LoggedState → ℕ → Option Taken) → Option Taken
then_taken (RunDone store rest) go = go (logged_state_after store Running) rest
then_taken (RunTrap cause store) go = Some DidTrap
then_taken (RunSpent store) go = Some WasSpent
then_taken RunStuck go = None

abbrev pub taken_by_calls : Setup → List (Option ℕ) → LoggedState → ℕ → Option Taken
taken_by_calls setup [] now rest = Some (TookUnits (setup.budget - rest))
taken_by_calls setup (None ∷ functions) now rest = taken_by_calls setup functions now rest
taken_by_calls setup (Some function ∷ functions) now rest =
    then_taken (run_entry setup.cart setup.host_functions function (store_of setup.font now) rest)
    (λ now rest. taken_by_calls setup functions now rest)

unfoldable pub start_units : Setup → List ℕ → Option Taken
start_units setup disk =
    taken_by_calls setup (start_functions setup.cart) (with_empty_logs (fresh setup.cart disk)) setup.budget

-- ---- their text

abbrev pub taken_words : Taken → List ℕ
taken_words (TookUnits units) = decimal units
taken_words WasHalted = codes "halted"
taken_words DidTrap = codes "trap"
taken_words WasSpent = codes "spent"

abbrev pub start_line : Taken → List ℕ
start_line taken = codes "start " ++ taken_words taken ++ line_end

-- behind the line of a frame whose input has a reset
abbrev pub after_reset : Option Taken → List ℕ
after_reset None = []
after_reset (Some taken) = codes " start " ++ taken_words taken

abbrev pub units_line : ℕ → Taken → Option Taken → List ℕ
units_line k taken reset_taken =
    codes "units" ++ spaced k ++ 32 ∷ taken_words taken ++ after_reset reset_taken ++ line_end

-- the reset of an input that has one
abbrev pub reset_units : Setup → State → Input → Option (Option Taken)
reset_units setup state input =
    if input.reset then option_map Some (start_units setup state.disk) else Some None

-- the line of frame K of a run
abbrev pub units_at : PieceForm → Setup → List ℕ → List Input → ℕ → Option (List ℕ)
units_at form setup disk inputs k = do
  state ← run_state setup disk inputs k
  input ← slice_get inputs k
  taken ← frame_units setup state input
  reset_taken ← reset_units setup state input
  Some (form (units_line k taken reset_taken))

-- what the command writes: the line of the reset, and those of all frames
abbrev pub units_text : Setup → List ℕ → List Input → Option (List ℕ)
units_text setup disk inputs =
    joined (option_map start_line (start_units setup disk))
    (place_texts (units_at as_it_stands setup disk inputs) 0 (length inputs))

-- ---- worked cases: the cart whose `update` does nothing; one whose `update` is an endless loop, with a
-- budget of 50 and two frames; one whose `update` traps; a frame with a reset, whose `start` has two
-- instructions; and the same cart with a budget of 1, which its first reset spends
abbrev updating : Expr → WasmModule
updating body = record empty_module { bodies = record { runs = []; list = body } ∷ [] }

abbrev starting : WasmModule
starting = record empty_module {
  functions = 0 ∷ 0 ∷ [];
  exports = record { name = codes "update"; kind = export.Func; index = 0 }
      ∷ record { name = codes "start"; kind = export.Func; index = 1 } ∷ [];
  bodies = record { runs = []; list = sequence (op.Nop ∷ []) }
      ∷ record { runs = []; list = sequence (op.Nop ∷ op.Nop ∷ []) } ∷ [];
}

abbrev still : Bool → Input
still again =
    record { pads = 0 ∷ 0 ∷ 0 ∷ 0 ∷ []; mouse_x = pos 0; mouse_y = pos 0; buttons = 0; reset = again }

abbrev worked_units : WasmModule → ℕ → List Input → Option (List ℕ)
worked_units cart budget inputs = units_text (console_setup cart [] budget) [] inputs

abbrev pub UnitsCases : Type 0
UnitsCases =
    (worked_units empty_module 9 (still false ∷ []) ≡ Some (codes "start 0\nunits 0 0\n"))
    × (worked_units (updating (loop None (sequence (op.Br 0 ∷ [])) done)) 50 (still false ∷ still false ∷ [])
    ≡ Some (codes "start 0\nunits 0 spent\nunits 1 halted\n"))
    × (worked_units (updating (sequence (op.Unreachable ∷ []))) 50 (still false ∷ [])
    ≡ Some (codes "start 0\nunits 0 trap\n"))
    × (worked_units starting 9 (still true ∷ []) ≡ Some (codes "start 2\nunits 0 1 start 2\n"))
    × (worked_units starting 1 (still false ∷ []) ≡ Some (codes "start spent\nunits 0 halted\n"))

pub units-cases : UnitsCases
unfolding start_units digits eval eval_within zero_page first_page start_page start reset cleared frame
units-cases = (refl, refl, refl, refl, refl)
