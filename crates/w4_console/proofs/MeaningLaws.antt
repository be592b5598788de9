-- Each reset and each frame of an accepted cart has a meaning, and leaves globals of the cart's types.
use Rattle.std.proofs.Common.{◌≡◌, ◌≢◌, ℕ, Bool, true, false, List, [], ◌∷◌, take, Option, Some, None, refl}
use Rattle.std.proofs.Common.{ap}
use Rattle.std.specs.Prelude.{IsSome, IsSomeAnd, IfSome, length, codes}
use Rattle.std.specs.Option.{option_and_then, option_map}
use Rattle.w4_defs.specs.declared.console.Halt.{Halt}
use Rattle.w4_defs.specs.declared.console.Halt.TheVariants.{Running, Trapped, Spent}
use Rattle.w4_defs.specs.declared.console.Input.{Input}
use Rattle.w4_defs.specs.Board.{console, console_setup}
use Rattle.w4_defs.specs.EntryPoints.{start_functions, exported_function, update_entry}
use Rattle.w4_defs.specs.Evaluation.{run_entry}
use Rattle.w4_defs.specs.Frame.{before_update, call_update, frame, update, update_from}
use Rattle.w4_defs.specs.Lookup.{signature_of, own_global_types}
use Rattle.w4_defs.specs.Module.{WasmModule, nothing_to_nothing}
use Rattle.w4_defs.specs.Outcome.{Ended, RunDone, RunTrap, RunSpent, RunStuck}
use Rattle.w4_defs.specs.Profile.{profile_refusal}
use Rattle.w4_defs.specs.Reset.{call_all, fresh, logged_state_after, recorded, reset, start, store_of}
use Rattle.w4_defs.specs.Reset.{then_on, with_empty_logs}
use Rattle.w4_defs.specs.Run.{fold, played_on}
use Rattle.w4_defs.specs.State.{Board, Moment, State, LoggedState, HasGlobals}
use Rattle.w4_defs.specs.Validity.{IsStart, IsValid}
use Rattle.w4_host.specs.Answers.{answers_by_type}
use Rattle.w4_defs.specs.TypeSoundness.{HasTypes}
use Rattle.wasm_valid.proofs.NeverStuck.{never_stuck_with, globals_keep_types_with}
use Rattle.wasm_valid.proofs.ProfileFacts.{entry_point_found, update_found}
use Rattle.w4_defs.specs.Meaning.{AcceptedRunsHaveMeaning, LeadsOn, RunsHaveMeaning}
use Rattle.w4_console.proofs.StartLaws.{first_types}

-- what the console's profile lets through, valid, with a body for each own function
record Accepted (m : WasmModule) : Type 0 where
  within : profile_refusal m ≡ None
  valid : IsValid m
  as_many_bodies : length m.functions ≡ length m.bodies

-- what a reset or a frame has come to is there, and its globals have the cart's types
abbrev Meant : WasmModule → Option LoggedState → Type 0
Meant m o = (now : LoggedState) × (o ≡ Some now) × HasGlobals m now.state

abbrev MomentIs : WasmModule → Option Moment → Type 0
MomentIs m o = (moment : Moment) × (o ≡ Some moment) × HasGlobals m moment.state

abbrev Found : WasmModule → Option ℕ → Type 0
Found m o = IfSome o (λ f. signature_of m f ≡ Some nothing_to_nothing)

then_meant : (m : WasmModule) (end : Ended Board) (go : LoggedState → ℕ → Option LoggedState)
    → end ≢ RunStuck → HasTypes (own_global_types m) end
    → ((now : LoggedState) (rest : ℕ) → HasGlobals m now.state → Meant m (go now rest))
    → Meant m (then_on end go)
then_meant m (RunDone st rest) go meant types h = h (logged_state_after st Running) rest types
then_meant m (RunTrap cause st) go meant types h = (logged_state_after st (Trapped cause), refl, types)
then_meant m (RunSpent st) go meant types h = (logged_state_after st Spent, refl, types)
then_meant m RunStuck go meant types h = absurd (meant refl)

-- a call of an entry point
call_meant : (m : WasmModule) (font : List ℕ) (function : ℕ) (now : LoggedState) (budget : ℕ)
    (go : LoggedState → ℕ → Option LoggedState)
    → Accepted m → signature_of m function ≡ Some nothing_to_nothing → HasGlobals m now.state
    → ((next : LoggedState) (rest : ℕ) → HasGlobals m next.state → Meant m (go next rest))
    → Meant m (then_on (run_entry m console function (store_of font now) budget) go)
call_meant m font function now budget go ok signature_is globals h =
    then_meant m (run_entry m console function (store_of font now) budget) go
    (never_stuck_with console answers_by_type m ok.within ok.valid ok.as_many_bodies function
    (store_of font now) budget signature_is globals)
    (globals_keep_types_with console answers_by_type m ok.within ok.valid ok.as_many_bodies function
    (store_of font now) budget signature_is globals)
    h

abbrev AreFound : WasmModule → List (Option ℕ) → Type 0
AreFound m [] = Unit {0}
AreFound m (o ∷ os) = Found m o × AreFound m os

calls_meant : (m : WasmModule) (font : List ℕ) (whole : ℕ) (functions : List (Option ℕ)) (now : LoggedState)
    (budget : ℕ)
    → Accepted m → AreFound m functions → HasGlobals m now.state
    → Meant m (call_all (console_setup m font whole) functions now budget)
calls_meant m font whole [] now budget ok found globals = (now, refl, globals)
calls_meant m font whole (None ∷ functions) now budget ok found globals =
    calls_meant m font whole functions now budget ok found.1 globals
calls_meant m font whole (Some function ∷ functions) now budget ok found globals =
    call_meant m font function now budget
    (λ next rest. call_all (console_setup m font whole) functions next rest) ok found.0 globals
    (λ next rest h. calls_meant m font whole functions next rest ok found.1 h)

start_found : (m : WasmModule) (o : Option ℕ) → IsStart m o → Found m o
start_found m None h = tt
start_found m (Some f) h = h

start_meant : (m : WasmModule) (font : List ℕ) (budget : ℕ) (disk : List ℕ) → Accepted m
    → Meant m (start (console_setup m font budget) disk)
unfolding start
start_meant m font budget disk ok =
    calls_meant m font budget (start_functions m) (with_empty_logs (fresh m disk)) budget ok (
      start_found m m.start ok.valid.0.start,
      (
        entry_point_found m m.exports (codes "_start")
            (exported_function m (codes "_start")) ok.within refl refl
            refl,
        (
          entry_point_found m m.exports (codes "_initialize")
              (exported_function m (codes "_initialize")) ok.within
              refl refl refl,
          (
            entry_point_found m m.exports (codes "start")
                (exported_function m (codes "start")) ok.within refl refl
                refl,
            tt,
          ),
        ),
      ),
    )
    (first_types m ok.valid)

-- ---- a frame

call_update_meant : (m : WasmModule) (font : List ℕ) (budget : ℕ) (named : Option ℕ) (now : LoggedState)
    → Accepted m
    → IsSome named → Found m named → HasGlobals m now.state
    → Meant m (call_update (console_setup m font budget) named now)
call_update_meant m font budget None now ok some found globals = absurd cc
call_update_meant m font budget (Some function) now ok some found globals =
    call_meant m font function now budget (λ next rest. Some next) ok found globals
    (λ next rest h. (next, refl, h))

update_meant : (m : WasmModule) (font : List ℕ) (budget : ℕ) (input : Input) (now : LoggedState)
    (halt : Halt) → Accepted m
    → HasGlobals m now.state → Meant m (update_from (console_setup m font budget) input now halt)
update_meant m font budget input now Running ok globals =
    call_update_meant m font budget (update_entry m) _ ok
    (update_found m m.exports (update_entry m) ok.within refl refl)
    (entry_point_found m m.exports (codes "update") (update_entry m) ok.within refl refl refl)
    globals
update_meant m font budget input now (Trapped cause) ok globals = (now, refl, globals)
update_meant m font budget input now Spent ok globals = (now, refl, globals)

begun_meant : (m : WasmModule) (font : List ℕ) (budget : ℕ) (state : State) (input : Input) (again : Bool)
    → Accepted m
    → input.reset ≡ again → HasGlobals m state
    → Meant m (before_update (console_setup m font budget) state input)
begun_meant m font budget state input true ok e globals = rw e (start_meant m font budget state.disk ok)
begun_meant m font budget state input false ok e globals = rw e (with_empty_logs state, refl, globals)

after_begun : (m : WasmModule) (font : List ℕ) (budget : ℕ) (input : Input) (first : Option LoggedState)
    → Accepted m → Meant m first
    → MomentIs m (option_map recorded (option_and_then (update (console_setup m font budget) input) first))
after_begun m font budget input first ok (now, e, globals) =
    let next = update_meant m font budget input now now.state.halt ok globals in
    (recorded next.0, rw e (rw next.1 refl), next.2)

frame_meant : (m : WasmModule) (font : List ℕ) (budget : ℕ) (state : State) (input : Input) → Accepted m
    → HasGlobals m state
    → MomentIs m (frame (console_setup m font budget) state input)
unfolding frame
frame_meant m font budget state input ok globals =
    after_begun m font budget input (before_update (console_setup m font budget) state input) ok
    (begun_meant m font budget state input input.reset ok refl globals)

-- ---- a run

played_meant : (m : WasmModule) (font : List ℕ) (budget : ℕ) (inputs : List Input) (moment : Moment)
    → Accepted m
    → HasGlobals m moment.state → IsSome (played_on (console_setup m font budget) moment inputs)
played_meant m font budget [] moment ok globals = refl
played_meant m font budget (input ∷ inputs) moment ok globals =
    let next = frame_meant m font budget moment.state input ok globals in
    rw next.1 (played_meant m font budget inputs next.0 ok next.2)

reset_meant : (m : WasmModule) (font : List ℕ) (budget : ℕ) (disk : List ℕ) → Accepted m
    → MomentIs m (reset (console_setup m font budget) disk)
unfolding reset
reset_meant m font budget disk ok =
    let first = start_meant m font budget disk ok in
    (recorded first.0, ap (option_map recorded) first.1, first.2)

run_meant : (m : WasmModule) → Accepted m → RunsHaveMeaning m
run_meant m ok font budget disk inputs place =
    let first = reset_meant m font budget disk ok in
    rw first.1 (played_meant m font budget (take place inputs) first.0 ok first.2)

-- inputs from any state

folded_meant : (m : WasmModule) (font : List ℕ) (budget : ℕ) (inputs : List Input) (state : State)
    → Accepted m
    → HasGlobals m state
    → IsSomeAnd (fold (console_setup m font budget) state inputs) (HasGlobals m)
folded_meant m font budget [] state ok globals = globals
folded_meant m font budget (input ∷ inputs) state ok globals =
    let next = frame_meant m font budget state input ok globals in
    rw next.1 (folded_meant m font budget inputs next.0.state ok next.2)

leads_on : (m : WasmModule) (found : Option Moment) → MomentIs m found → LeadsOn m found
leads_on m found (moment, e, globals) = rw e globals

pub accepted_runs_have_meaning : AcceptedRunsHaveMeaning
accepted_runs_have_meaning bytes m
    (small, (sections, others, whole, spelled, collected), within, valid) =
    let ok : Accepted m =
    record { within = within; valid = valid; as_many_bodies = collected.as_many } in
    record {
      resets = λ font budget disk. leads_on m _ (reset_meant m font budget disk ok);
      frames =
          λ font budget state input globals.
          leads_on m _ (frame_meant m font budget state input ok globals);
      folds = λ font budget state inputs globals. folded_meant m font budget inputs state ok globals;
      runs = run_meant m ok;
    }
