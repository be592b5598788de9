-- Frames leave globals of the types that they had; a reset gives them those of the cart's first values.
use Rattle.std.proofs.Common.{◌≡◌, ℕ, zero, suc, Bool, true, false, cond, List, [], ◌∷◌, Option, Some, None}
use Rattle.std.proofs.Common.{refl, sym, subst, ◌∙◌}
use Rattle.std.specs.Option.{option_and_then, option_map}
use Rattle.std.specs.Prelude.{nat_le, reverse, slice_get}
use Rattle.w4_defs.specs.declared.console.Halt.{Halt}
use Rattle.w4_defs.specs.declared.console.Halt.TheVariants.{Running, Trapped, Spent as spent}
use Rattle.w4_defs.specs.declared.console.Input.{Input}
use Rattle.w4_defs.specs.declared.value.Val.{Val}
use Rattle.w4_defs.specs.declared.value.ValType.{ValType}
use Rattle.w4_defs.specs.declared.value.Cause.TheVariants as cause
use Rattle.w4_defs.specs.Board.{console, console_setup}
use Rattle.w4_defs.specs.Control.{leave}
use Rattle.w4_defs.specs.EntryPoints.{start_functions, update_entry, first_globals}
use Rattle.w4_defs.specs.Evaluation.{body_env, eval, run_own, ended, enter_own, enter, run_entry}
use Rattle.w4_defs.specs.Frame.{before_update, call_update, frame, update, update_from}
use Rattle.w4_defs.specs.Module.{WasmModule}
use Rattle.w4_defs.specs.Outcome.{Store, Outcome, Falls, Branch, Returns, Trap, Spent, Stuck, Ended, RunDone}
use Rattle.w4_defs.specs.Outcome.{RunTrap, RunSpent, RunStuck}
use Rattle.w4_defs.specs.Program.{Prog, Own, Callee, own_function, host_function, no_function, program}
use Rattle.w4_defs.specs.Program.{reserve_of, zeros}
use Rattle.w4_defs.specs.Reset.{call_all, fresh, logged_state_after, recorded, start, store_of, then_on}
use Rattle.w4_defs.specs.Reset.{with_empty_logs}
use Rattle.w4_defs.specs.Run.{fold}
use Rattle.w4_defs.specs.RunLaws.{types_of, LeavesGlobals}
use Rattle.w4_defs.specs.State.{Board, Moment, State, LoggedState, blank_state, HasGlobals}
use Rattle.w4_defs.specs.ValueTypes.{have_types, same_signature}
use Rattle.w4_defs.proofs.GlobalTypes.{globals_keep_types}

-- what stands at the end has globals of these types
abbrev HasEnded : List ValType → Ended Board → Type 0
HasEnded types (RunDone st rest) = types_of st.globals ≡ types
HasEnded types (RunTrap c st) = types_of st.globals ≡ types
HasEnded types (RunSpent st) = types_of st.globals ≡ types
HasEnded types RunStuck = Unit {0}

abbrev Has : List ValType → Option LoggedState → Type 0
Has types None = Unit {0}
Has types (Some now) = types_of now.state.globals ≡ types

module _ (types : List ValType) where
  if_falls : (b : Bool) (ops locals : List Val) (st : Store Board) (rest : ℕ) → types_of st.globals ≡ types
      → LeavesGlobals types (cond b (Falls ops locals st rest) Stuck)
  if_falls true ops locals st rest h = h
  if_falls false ops locals st rest h = tt

  leave_has : (results : List ValType) (ops locals : List Val) (o : Outcome Board) → LeavesGlobals types o
      → LeavesGlobals types (leave results ops locals o)
  leave_has results ops locals (Falls vs ls st b) h = if_falls
      (have_types (reverse results) vs) _ locals st b h
  leave_has results ops locals (Branch zero vs ls st b) h = h
  leave_has results ops locals (Branch (suc l) vs ls st b) h = tt
  leave_has results ops locals (Returns vs st b) h = h
  leave_has results ops locals (Trap c st) h = h
  leave_has results ops locals (Spent st) h = h
  leave_has results ops locals Stuck h = tt

  ended_has : (o : Outcome Board) → LeavesGlobals types o → HasEnded types (ended o)
  ended_has (Falls ops ls st b) h = h
  ended_has (Branch l vs ls st b) h = tt
  ended_has (Returns vs st b) h = tt
  ended_has (Trap c st) h = h
  ended_has (Spent st) h = h
  ended_has Stuck h = tt

  either_ends : (b : Bool) (one other : Ended Board) → HasEnded types one → HasEnded types other
      → HasEnded types (cond b one other)
  either_ends true one other h k = h
  either_ends false one other h k = k

own_has : (prog : Prog Board) (f : Own) (st : Store Board) (b : ℕ)
    → HasEnded (types_of st.globals) (enter_own prog f st b)
own_has prog f st b =
    either_ends (types_of st.globals) (nat_le (reserve_of f) 1048576) (ended (run_own prog f st b))
    (RunTrap cause.Stack st)
    (ended_has (types_of st.globals) (run_own prog f st b)
    (leave_has (types_of st.globals) f.signature.results [] []
    (eval prog f.function.list (body_env f 1 (reserve_of f)) [] (zeros f.function.runs) st b)
    (globals_keep_types prog f.function.list (body_env f 1 (reserve_of f)) [] (zeros f.function.runs) st b)))
    refl

enter_has : (prog : Prog Board) (callee : Option Callee) (st : Store Board) (b : ℕ)
    → HasEnded (types_of st.globals) (enter prog callee st b)
enter_has prog (Some (own_function f)) st b = either_ends (types_of st.globals)
    (same_signature f.signature (record { params = []; results = [] })) (enter_own prog f st b) RunStuck
    (own_has prog f st b) tt
enter_has prog (Some (host_function s i)) st b = tt
enter_has prog (Some no_function) st b = tt
enter_has prog None st b = tt

module _ (types : List ValType) (cart : WasmModule) (font : List ℕ) (whole : ℕ) where
  then_has : (end : Ended Board) (go : LoggedState → ℕ → Option LoggedState) → HasEnded types end
      → ((now : LoggedState) (rest : ℕ) → types_of now.state.globals ≡ types → Has types (go now rest))
      → Has types (then_on end go)
  then_has (RunDone st rest) go h k = k (logged_state_after st Running) rest h
  then_has (RunTrap c st) go h k = h
  then_has (RunSpent st) go h k = h
  then_has RunStuck go h k = tt

  call_has : (function : ℕ) (now : LoggedState) (budget : ℕ) (go : LoggedState → ℕ → Option LoggedState)
      → types_of now.state.globals ≡ types
      → ((next : LoggedState) (rest : ℕ) → types_of next.state.globals ≡ types → Has types (go next rest))
      → Has types (then_on (run_entry cart console function (store_of font now) budget) go)
  call_has function now budget go h k = then_has
      (run_entry cart console function (store_of font now) budget) go
      (subst (λ t. HasEnded t (run_entry cart console function (store_of font now) budget)) h
      (enter_has (program cart console) (slice_get (program cart console).functions function)
      (store_of font now) budget)) k

  calls_have : (functions : List (Option ℕ)) (now : LoggedState) (budget : ℕ)
      → types_of now.state.globals ≡ types
      → Has types (call_all (console_setup cart font whole) functions now budget)
  calls_have [] now budget h = h
  calls_have (None ∷ functions) now budget h = calls_have functions now budget h
  calls_have (Some function ∷ functions) now budget h =
      call_has function now budget
      (λ next rest. call_all (console_setup cart font whole) functions next rest) h
      (λ next rest k. calls_have functions next rest k)

  start_has : (disk : List ℕ) → types_of (first_globals cart) ≡ types
      → Has types (start (console_setup cart font whole) disk)
  unfolding start
  start_has disk h = calls_have (start_functions cart) (with_empty_logs (fresh cart disk)) whole h

  call_update_has : (named : Option ℕ) (now : LoggedState) → types_of now.state.globals ≡ types
      → Has types (call_update (console_setup cart font whole) named now)
  call_update_has None now h = tt
  call_update_has (Some function) now h = call_has function now whole (λ next rest. Some next) h
      (λ next rest k. k)

  update_has : (input : Input) (now : LoggedState) (halt : Halt) → types_of now.state.globals ≡ types
      → Has types (update_from (console_setup cart font whole) input now halt)
  update_has input now Running h = call_update_has (update_entry cart) _ h
  update_has input now (Trapped c) h = h
  update_has input now spent h = h

  begun_has : (state : State) (input : Input) (again : Bool) → input.reset ≡ again
      → types_of (first_globals cart) ≡ types
      → types_of state.globals ≡ types → Has types (before_update (console_setup cart font whole) state input)
  begun_has state input true e first h = rw e (start_has state.disk first)
  begun_has state input false e first h = rw e h

  abbrev HasMoment : Option Moment → Type 0
  HasMoment None = Unit {0}
  HasMoment (Some moment) = types_of moment.state.globals ≡ types

  recorded_has : (o : Option LoggedState) → Has types o → HasMoment (option_map recorded o)
  recorded_has None h = tt
  recorded_has (Some now) h = h

  after_begun : (input : Input) (first : Option LoggedState) → Has types first
      → HasMoment (option_map recorded (option_and_then (update (console_setup cart font whole) input) first))
  after_begun input None h = tt
  after_begun input (Some now) h = recorded_has (update (console_setup cart font whole) input now)
      (update_has input now now.state.halt h)

  frame_has : (state : State) (input : Input) → types_of (first_globals cart) ≡ types
      → types_of state.globals ≡ types
      → HasMoment (frame (console_setup cart font whole) state input)
  unfolding frame
  frame_has state input first h = after_begun input
      (before_update (console_setup cart font whole) state input)
      (begun_has state input input.reset refl first h)

  abbrev HasState : Option State → Type 0
  HasState None = Unit {0}
  HasState (Some state) = types_of state.globals ≡ types

  then_folds : (next : Option Moment) (inputs : List Input) → HasMoment next
      → ((state : State) → types_of state.globals ≡ types
      → HasState (fold (console_setup cart font whole) state inputs))
      → HasState (option_and_then (λ (m : Moment). fold (console_setup cart font whole) m.state inputs) next)
  then_folds None inputs h k = tt
  then_folds (Some m) inputs h k = k m.state h

  fold_has : (state : State) (inputs : List Input) → types_of (first_globals cart) ≡ types
      → types_of state.globals ≡ types
      → HasState (fold (console_setup cart font whole) state inputs)
  fold_has state [] first h = h
  fold_has state (input ∷ inputs) first h = then_folds
      (frame (console_setup cart font whole) state input) inputs
      (frame_has state input first h) (λ next k. fold_has next inputs first k)

-- what inputs make of a state of the cart's types has them too
pub fold_keeps : (cart : WasmModule) (font : List ℕ) (budget : ℕ) (state next : State) (inputs : List Input)
    → HasGlobals cart (blank_state (first_globals cart)) → HasGlobals cart state
    → fold (console_setup cart font budget) state inputs ≡ Some next → HasGlobals cart next
fold_keeps cart font budget state next inputs first h e =
    let types = types_of (first_globals cart) in
    subst (λ (o : Option State). HasState types cart font budget o) e
    (fold_has types cart font budget state inputs refl (h ∙ sym first)) ∙ first
