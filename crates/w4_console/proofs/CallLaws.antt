-- How calls of entry functions go on, one after another.
use Rattle.std.proofs.Common.{◌≡◌, ℕ, ◌-◌, List, [], ◌∷◌, Option, Some, refl, subst, ◌∙◌}
use Rattle.std.specs.Prelude.{OnOk, Result, Ok, Err}
use Rattle.w4_defs.specs.declared.value.Val.{Val}
use Rattle.w4_defs.specs.declared.console.Halt.{Halt}
use Rattle.w4_defs.specs.declared.console.Halt.TheVariants.{Running}
use Rattle.w4_defs.specs.Board.{console, console_setup}
use Rattle.w4_defs.specs.Evaluation.{run_entry}
use Rattle.w4_defs.specs.Module.{WasmModule}
use Rattle.w4_defs.specs.Outcome.{Store, Ended, RunDone, RunTrap, RunSpent, RunStuck}
use Rattle.w4_defs.specs.Reset.{call_all, logged_state_after, store_of, then_on}
use Rattle.w4_defs.specs.State.{Board, State, LoggedState}
use Rattle.w4_defs.specs.Units.{Taken, TookUnits, taken_by, taken_by_calls, then_taken}
use Rattle.w4_console.specs.declared.taken.Stop.{Stop}
use Rattle.w4_console.specs.Calls.{gone_on, halt_after, IsCalled, IsCalledFirst, rest_after, TakesUnits}
use Rattle.w4_console.specs.Calls.{TakesUnitsFirst, units_on}
use Rattle.w4_console.specs.Taken.{taken_by_calls_of}
use Rattle.wasm_laws.specs.declared.ending.Ending.{Ending}
use Rattle.wasm_laws.specs.declared.ending.Ending.TheVariants as ending
use Rattle.wasm_laws.specs.Ends.{EndsAs}

abbrev pub board_store : List ℕ → List Val → Board → Store Board
board_store page globals board = record { page = page; globals = globals; host = board }

-- what an ending says of how it goes on
ended_as_found : (end : Ended Board) (found : Ending) (page : List ℕ) (globals : List Val) (board : Board)
    → EndsAs end found page globals board
    → (go : LoggedState → ℕ → Option LoggedState)
    → then_on end go ≡ gone_on (rest_after found)
    (logged_state_after (board_store page globals board) (halt_after found)) go
ended_as_found (RunDone st rest) (ending.Done left) page globals board e go = rw (e.0, e.1) refl
ended_as_found (RunDone st rest) (ending.Trap cause) page globals board e go = absurd e
ended_as_found (RunDone st rest) ending.Spent page globals board e go = absurd e
ended_as_found (RunTrap cause st) (ending.Done left) page globals board e go = absurd e
ended_as_found (RunTrap cause st) (ending.Trap found) page globals board e go = rw (e.0, e.1) refl
ended_as_found (RunTrap cause st) ending.Spent page globals board e go = absurd e
ended_as_found (RunSpent st) (ending.Done left) page globals board e go = absurd e
ended_as_found (RunSpent st) (ending.Trap cause) page globals board e go = absurd e
ended_as_found (RunSpent st) ending.Spent page globals board e go = rw e refl
ended_as_found RunStuck found page globals board e go = absurd e

-- and of what is taken
taken_as_found : (end : Ended Board) (found : Ending) (page : List ℕ) (globals : List Val) (board : Board)
    → EndsAs end found page globals board
    → (go : LoggedState → ℕ → Option Taken)
    → then_taken end go ≡ units_on (rest_after found)
    (logged_state_after (board_store page globals board) (halt_after found)) go
taken_as_found (RunDone st rest) (ending.Done left) page globals board e go = rw (e.0, e.1) refl
taken_as_found (RunDone st rest) (ending.Trap cause) page globals board e go = absurd e
taken_as_found (RunDone st rest) ending.Spent page globals board e go = absurd e
taken_as_found (RunTrap cause st) (ending.Done left) page globals board e go = absurd e
taken_as_found (RunTrap cause st) (ending.Trap found) page globals board e go = refl
taken_as_found (RunTrap cause st) ending.Spent page globals board e go = absurd e
taken_as_found (RunSpent st) (ending.Done left) page globals board e go = absurd e
taken_as_found (RunSpent st) (ending.Trap cause) page globals board e go = absurd e
taken_as_found (RunSpent st) ending.Spent page globals board e go = refl
taken_as_found RunStuck found page globals board e go = absurd e

-- a call on a board, and what stands after the devices are put back
module _ (cart : WasmModule) (font : List ℕ) (function : ℕ) (now next : LoggedState) (budget : ℕ)
    (found : Ending) (state : State) (first page : List ℕ) (firsts globals back : List Val)
    (board used : Board) (rest : Result ℕ Stop) (halt : Halt)
    (from : board_store state.page state.globals board ≡ store_of font now) (p : first ≡ state.page)
    (g : firsts ≡ state.globals)
    (e : EndsAs (run_entry cart console function (board_store first firsts board) budget) found page globals
    used)
    (b : back ≡ globals) (r : rest ≡ rest_after found) (h : halt ≡ halt_after found)
    (n : next ≡ logged_state_after (board_store page back used) halt) where
  ends_as_found : EndsAs (run_entry cart console function (store_of font now) budget) found page globals used
  ends_as_found =
      let at_first : board_store first firsts board ≡ store_of font now = rw (p, g) from in
      subst
      (λ (st : Store Board). EndsAs (run_entry cart console function st budget) found page globals used)
      at_first e

  pub called : IsCalled cart font function now budget rest next
  called = rw (n, r, h, b)
      (ended_as_found (run_entry cart console function (store_of font now) budget) found page globals used
      ends_as_found)

  pub units_taken : TakesUnits cart font function now budget rest next
  units_taken = rw (n, r, h, b)
      (taken_as_found (run_entry cart console function (store_of font now) budget) found page globals used
      ends_as_found)

-- where a rest is left, the cart still runs
pub still_runs : (found : Ending) (rest : Result ℕ Stop) (halt here : Halt) → rest ≡ rest_after found
    → halt ≡ halt_after found → here ≡ halt
    → OnOk rest (here ≡ Running)
still_runs (ending.Done left) rest halt here r h e = rw (e, h, r) refl
still_runs (ending.Trap cause) rest halt here r h e = rw (e, h, r) tt
still_runs ending.Spent rest halt here r h e = rw (e, h, r) tt

-- after the last it is the end in any case
pub at_end : (found : Result ℕ Stop) (next : LoggedState) → gone_on found next (λ now rest. Some now)
    ≡ Some next
at_end (Err why) next = refl
at_end (Ok rest) next = refl

pub taken_at_end : (whole : ℕ) (found : Result ℕ Stop) (next : LoggedState)
    → units_on found next (λ now rest. Some (TookUnits (whole - rest))) ≡ Some (taken_by_calls_of whole found)
taken_at_end whole (Err why) next = refl
taken_at_end whole (Ok rest) next = refl

-- of a call with a budget of its own
by_one_call : (budget : ℕ) (end : Ended Board)
    → taken_by budget end ≡ then_taken end (λ now rest. Some (TookUnits (budget - rest)))
by_one_call budget (RunDone st rest) = refl
by_one_call budget (RunTrap cause st) = refl
by_one_call budget (RunSpent st) = refl
by_one_call budget RunStuck = refl

pub one_call_taken : (cart : WasmModule) (font : List ℕ) (function : ℕ) (now next : LoggedState) (budget : ℕ)
    (rest : Result ℕ Stop)
    → TakesUnits cart font function now budget rest next
    → taken_by budget (run_entry cart console function (store_of font now) budget)
    ≡ Some (taken_by_calls_of budget rest)
one_call_taken cart font function now next budget rest is =
    by_one_call budget (run_entry cart console function (store_of font now) budget)
    ∙ is (λ now rest. Some (TookUnits (budget - rest))) ∙ taken_at_end budget rest next

module _ (cart : WasmModule) (font : List ℕ) (whole : ℕ) where
  -- these functions, called one after another, come from one of these to the other
  abbrev pub Calls : List (Option ℕ) → LoggedState → ℕ → LoggedState → Type 0
  Calls functions now budget next = call_all (console_setup cart font whole) functions now budget ≡ Some next

  -- and this is told of the units that they take
  abbrev pub Take : List (Option ℕ) → LoggedState → ℕ → Taken → Type 0
  Take functions now budget taken = taken_by_calls (console_setup cart font whole) functions now budget
      ≡ Some taken

  module _ (function named : Option ℕ) (functions : List (Option ℕ)) (now next : LoggedState) (budget : ℕ)
      (e : function ≡ named) where
    -- where no rest is left, the others aren't called
    pub stops : (why : Stop) → IsCalledFirst cart font function now budget (Err why) next
        → Calls (named ∷ functions) now budget next
    stops why is = subst (λ (f : Option ℕ). Calls (f ∷ functions) now budget next) e (is functions whole)

    pub units_at_stop : (why : Stop) → TakesUnitsFirst cart font function now budget (Err why) next
        → Take (named ∷ functions) now budget (taken_by_calls_of whole (Err why))
    units_at_stop why is =
        subst (λ (f : Option ℕ). Take (f ∷ functions) now budget (taken_by_calls_of whole (Err why))) e
        (is functions whole)

    -- where one is left, they are called with it
    pub calls_go_on : (last : LoggedState) (rest : ℕ)
        → IsCalledFirst cart font function now budget (Ok rest) next → Calls functions next rest last
        → Calls (named ∷ functions) now budget last
    calls_go_on last rest is others =
        subst (λ (f : Option ℕ). Calls (f ∷ functions) now budget last) e (is functions whole ∙ others)

    pub taken_go_on : (taken : Taken) (rest : ℕ)
        → TakesUnitsFirst cart font function now budget (Ok rest) next → Take functions next rest taken
        → Take (named ∷ functions) now budget taken
    taken_go_on taken rest is others =
        subst (λ (f : Option ℕ). Take (f ∷ functions) now budget taken) e (is functions whole ∙ others)

  pub calls_end : (function named : Option ℕ) (now next : LoggedState) (budget : ℕ) (found : Result ℕ Stop)
      → function ≡ named
      → IsCalledFirst cart font function now budget found next → Calls (named ∷ []) now budget next
  calls_end function named now next budget found e is =
      subst (λ (f : Option ℕ). Calls (f ∷ []) now budget next) e (is [] whole ∙ at_end found next)

  pub taken_end : (function named : Option ℕ) (now next : LoggedState) (budget : ℕ) (found : Result ℕ Stop)
      → function ≡ named
      → TakesUnitsFirst cart font function now budget found next
      → Take (named ∷ []) now budget (taken_by_calls_of whole found)
  taken_end function named now next budget found e is =
      subst (λ (f : Option ℕ). Take (f ∷ []) now budget (taken_by_calls_of whole found)) e
      (is [] whole ∙ taken_at_end whole found next)
