-- Where a reset or a frame is there, so are its units, and they tell how its calls ended; so the units of a
-- run are there, where its runs have a meaning.
use Rattle.std.proofs.Common.{◌≡◌, ℕ, ◌+◌, ◌-◌, ◌<◌, ◌≤◌, Bool, true, false, cond, List, [], ◌∷◌, length, get_or, take, Option, Some, None, option_map, option_and_then, refl, sym, subst, ap, ◌∙◌, arith}
use Rattle.std.specs.Prelude.{IsSome, IsSomeAnd}
use Rattle.std.specs.List.{slice_get}
use Rattle.std.proofs.lemmas.Option.{slice_get-get_or}
use Rattle.w4_defs.specs.declared.console.Halt.{Halt}
use Rattle.w4_defs.specs.declared.console.Halt.TheVariants.{Running, Trapped, Spent}
use Rattle.w4_defs.specs.declared.console.Input.{Input}
use Rattle.w4_defs.specs.EntryPoints.{start_functions, update_entry}
use Rattle.w4_defs.specs.Evaluation.{run_entry}
use Rattle.w4_defs.specs.Frame.{before_update, call_update, frame, update, update_from, with_input}
use Rattle.w4_defs.specs.Meaning.{RunsHaveMeaning}
use Rattle.w4_defs.specs.Module.{WasmModule}
use Rattle.w4_defs.specs.Outcome.{Ended, RunDone, RunTrap, RunSpent, RunStuck}
use Rattle.w4_defs.specs.Output.{Played, run_setup}
use Rattle.w4_defs.specs.PlaceTexts.{PieceForm, as_it_stands, place_texts}
use Rattle.w4_defs.specs.RecordingOutputs.{run_units}
use Rattle.w4_defs.specs.Reading.{◌>>=◌}
use Rattle.w4_defs.specs.Reset.{Setup, call_all, fresh, logged_state_after, recorded, reset, start, store_of, then_on, with_empty_logs}
use Rattle.w4_defs.specs.Run.{played_on, run, run_state}
use Rattle.w4_defs.specs.State.{Board, LoggedState, Moment, State}
use Rattle.w4_defs.specs.Units.{Taken, TookUnits, frame_units, reset_units, start_line, start_units, taken_by, taken_by_calls, taken_by_update, taken_from, then_taken, units_at, units_line, units_text}
use Rattle.w4_defs.specs.UnitsLaws.{FramesHaveUnits, ResetsHaveUnits, TellsEnd, TellsFrame}
use Rattle.w4_defs.proofs.OptionLaws.{some_same}
use Rattle.w4_defs.proofs.RunLaws.{runs_on}
use Rattle.w4_defs.proofs.ThereLaws.{RunsAreThere, joined_there, mapped_there, texts_within, value_there}

-- ---- how calls end

-- the units tell of the state that calls leave, where they leave one
abbrev EndsTold : ℕ → Option LoggedState → Option Taken → Type 0
EndsTold budget None taken = Unit {0}
EndsTold budget (Some after) taken = IsSomeAnd taken (TellsEnd budget after.state.halt)

one_call_told : (budget : ℕ) (go : LoggedState → ℕ → Option LoggedState) (units : LoggedState → ℕ
    → Option Taken)
    → ((now : LoggedState) (rest : ℕ) → now.state.halt ≡ Running
    → EndsTold budget (go now rest) (units now rest))
    → (end : Ended Board) → EndsTold budget (then_on end go) (then_taken end units)
one_call_told budget go units told (RunDone store rest) = told (logged_state_after store Running) rest refl
one_call_told budget go units told (RunTrap cause store) = tt
one_call_told budget go units told (RunSpent store) = tt
one_call_told budget go units told RunStuck = tt

-- the console runs before the calls go on
calls_told : (setup : Setup) (functions : List (Option ℕ)) (now : LoggedState) (rest : ℕ)
    → now.state.halt ≡ Running
    → EndsTold setup.budget (call_all setup functions now rest) (taken_by_calls setup functions now rest)
calls_told setup [] now rest running =
    let few : setup.budget - rest ≤ setup.budget = omega arith in
    subst (λ halt. TellsEnd setup.budget halt (TookUnits (setup.budget - rest))) (sym running) few
calls_told setup (None ∷ functions) now rest running = calls_told setup functions now rest running
calls_told setup (Some function ∷ functions) now rest running =
    one_call_told setup.budget (λ now rest. call_all setup functions now rest)
    (λ now rest. taken_by_calls setup functions now rest) (calls_told setup functions)
    (run_entry setup.cart setup.host_functions function (store_of setup.font now) rest)

recorded_told : (budget : ℕ) (left : Option LoggedState) (taken : Option Taken) (moment : Moment)
    → EndsTold budget left taken → option_map recorded left ≡ Some moment
    → IsSomeAnd taken (TellsEnd budget moment.state.halt)
recorded_told budget None taken moment told e = absurd cc
recorded_told budget (Some after) taken moment told e =
    subst (λ (m : Moment). IsSomeAnd taken (TellsEnd budget m.state.halt))
    (some_same (recorded after) moment e) told

pub resets_have_units : ResetsHaveUnits
unfolding start_units reset start
resets_have_units setup disk moment e =
    recorded_told setup.budget (start setup disk) (start_units setup disk) moment
    (calls_told setup (start_functions setup.cart) (with_empty_logs (fresh setup.cart disk)) setup.budget
    refl) e

-- ---- how frames end

abbrev FrameTold : ℕ → Halt → Option LoggedState → Option Taken → Type 0
FrameTold budget before None taken = Unit {0}
FrameTold budget before (Some after) taken = IsSomeAnd taken (TellsFrame budget before after.state.halt)

call_told : (budget : ℕ) (end : Ended Board)
    → FrameTold budget Running (then_on end (λ now rest. Some now)) (taken_by budget end)
call_told budget (RunDone store rest) = omega arith
call_told budget (RunTrap cause store) = tt
call_told budget (RunSpent store) = tt
call_told budget RunStuck = tt

update_told : (setup : Setup) (function : Option ℕ) (now : LoggedState)
    → FrameTold setup.budget Running (call_update setup function now) (taken_by_update setup now function)
update_told setup None now = tt
update_told setup (Some function) now = call_told setup.budget
    (run_entry setup.cart setup.host_functions function (store_of setup.font now) setup.budget)

halt_told : (setup : Setup) (input : Input) (now : LoggedState) (halt : Halt) → now.state.halt ≡ halt
    → FrameTold setup.budget halt (update_from setup input now halt) (taken_from setup input now halt)
halt_told setup input now Running same = update_told setup (update_entry setup.cart) (with_input input now)
halt_told setup input now (Trapped cause) same = same
halt_told setup input now Spent same = same

frame_recorded_told : (budget : ℕ) (before : Halt) (left : Option LoggedState) (taken : Option Taken)
    (moment : Moment) → FrameTold budget before left taken → option_map recorded left ≡ Some moment
    → IsSomeAnd taken (TellsFrame budget before moment.state.halt)
frame_recorded_told budget before None taken moment told e = absurd cc
frame_recorded_told budget before (Some after) taken moment told e =
    subst (λ (m : Moment). IsSomeAnd taken (TellsFrame budget before m.state.halt))
    (some_same (recorded after) moment e) told

pub frames_have_units : FramesHaveUnits
unfolding frame
frames_have_units setup state input before moment begins e =
    let units : LoggedState → Option Taken = λ now. taken_from setup input now now.state.halt in
    let halt = before.state.halt in
    let told = frame_recorded_told setup.budget halt (update setup input before) (units before) moment
    (halt_told setup input before halt refl)
    (sym (ap (λ o. option_map recorded (option_and_then (update setup input) o)) begins) ∙ e) in
    subst (λ o. IsSomeAnd (option_and_then units o) (TellsFrame setup.budget halt moment.state.halt))
    (sym begins) told

-- ---- they are there

some_from_and : {A : Type 0} (P : A → Type 0) (o : Option A) → IsSomeAnd o P → IsSome o
some_from_and P (Some x) holds = refl
some_from_and P None holds = absurd holds

pub start_units_there : (setup : Setup) (disk : List ℕ) → IsSome (start setup disk)
    → IsSome (start_units setup disk)
unfolding reset
start_units_there setup disk there =
    let moment = value_there (reset setup disk) (mapped_there recorded (start setup disk) there) in
    some_from_and (TellsEnd setup.budget moment.0.state.halt) (start_units setup disk)
    (resets_have_units setup disk moment.0 moment.1)

first_there : {A B C : Type 0} (h : B → C) (go : A → Option B) (o : Option A)
    → IsSome (option_map h (option_and_then go o)) → IsSome o
first_there h go (Some x) there = refl
first_there h go None there = there

before_there : (setup : Setup) (state : State) (input : Input) → IsSome (frame setup state input)
    → IsSome (before_update setup state input)
unfolding frame
before_there setup state input there =
    first_there recorded (update setup input) (before_update setup state input) there

module _ (setup : Setup) (state : State) (input : Input) (there : IsSome (frame setup state input)) where
  pub frame_units_there : IsSome (frame_units setup state input)
  frame_units_there =
      let before = value_there (before_update setup state input) (before_there setup state input there) in
      let moment = value_there (frame setup state input) there in
      some_from_and (TellsFrame setup.budget before.0.state.halt moment.0.state.halt)
      (frame_units setup state input)
      (frames_have_units setup state input before.0 moment.0 before.1 moment.1)

  pub reset_units_there : IsSome (reset_units setup state input)
  reset_units_there = by input.reset (before_there setup state input there)
    where
      by : (again : Bool)
          → IsSome (cond again (start setup state.disk) (Some (with_empty_logs state)))
          → IsSome (cond again (option_map Some (start_units setup state.disk)) (Some None))
      by true there = mapped_there Some (start_units setup state.disk)
          (start_units_there setup state.disk there)
      by false there = refl

-- ---- the units of a run

input_there : (inputs : List Input) (k : ℕ) → k < length inputs
    → (input : Input) × (slice_get inputs k ≡ Some input)
input_there [] k within = absurd (omega (arith, within))
input_there (input ∷ inputs) k within =
    (get_or (input ∷ inputs) k input, slice_get-get_or (input ∷ inputs) k input within)

-- a run that is there at place 0 has a reset
reset_there : (setup : Setup) (disk : List ℕ) → RunsAreThere setup disk → IsSome (start setup disk)
unfolding reset
reset_there setup disk there = from_recorded (start setup disk) (there [] 0)
  where
    from_recorded : (o : Option LoggedState)
        → IsSome (option_and_then (λ (m : Moment). played_on setup m (take 0 [])) (option_map recorded o))
        → IsSome o
    from_recorded (Some now) there = refl
    from_recorded None there = there

then_there : {A B : Type 0} (o : Option A) (f : A → Option B) (x : A) → o ≡ Some x → IsSome (f x)
    → IsSome (o >>= f)
then_there o f x e there = subst (λ p. IsSome (p >>= f)) (sym e) there

module _ (setup : Setup) (disk : List ℕ) (there : RunsAreThere setup disk) where
  next_there : (inputs : List Input) (k : ℕ) (input : Input) (moment : Moment)
      → slice_get inputs k ≡ Some input → run setup disk inputs k ≡ Some moment
      → IsSome (frame setup moment.state input)
  next_there inputs k input moment is_input is_moment =
      subst (λ o. IsSome o)
      (runs_on setup disk inputs k input is_input
      ∙ ap (option_and_then (λ (m : Moment). frame setup m.state input)) is_moment)
      (there inputs (k + 1))

  pub units_at_there : (form : PieceForm) (inputs : List Input) (k : ℕ) → k < length inputs
      → IsSome (units_at form setup disk inputs k)
  units_at_there form inputs k within =
      let moment = value_there (run setup disk inputs k) (there inputs k) in
      let input = input_there inputs k within in
      let framed = next_there inputs k input.0 moment.0 input.1 moment.1 in
      let state = moment.0.state in
      let taken = value_there (frame_units setup state input.0)
      (frame_units_there setup state input.0 framed) in
      let start = value_there (reset_units setup state input.0)
      (reset_units_there setup state input.0 framed) in
      then_there (run_state setup disk inputs k) _ state (ap (option_map (λ (m : Moment). m.state)) moment.1)
      (then_there (slice_get inputs k) _ input.0 input.1
      (then_there (frame_units setup state input.0) _ taken.0 taken.1
      (then_there (reset_units setup state input.0) (λ start. Some (form (units_line k taken.0 start)))
      start.0 start.1 refl)))

  pub units_range_there : (form : PieceForm) (inputs : List Input) (a count : ℕ) → a + count ≤ length inputs
      → IsSome (place_texts (units_at form setup disk inputs) a count)
  units_range_there form inputs a count within =
      texts_within (units_at form setup disk inputs) a count
      (λ k low high. units_at_there form inputs k (omega (arith, high, within)))

  pub all_units_there : (inputs : List Input) → IsSome (units_text setup disk inputs)
  all_units_there inputs =
      joined_there (option_map start_line (start_units setup disk))
      (place_texts (units_at as_it_stands setup disk inputs) 0 (length inputs))
      (mapped_there start_line (start_units setup disk)
      (start_units_there setup disk (reset_there setup disk there)))
      (units_range_there as_it_stands inputs 0 (length inputs) (omega arith))

-- what `units` writes is there
pub units_text_there : (m : WasmModule) → RunsHaveMeaning m → (p : Played) → IsSome (run_units m p)
units_text_there m meant p =
    all_units_there (run_setup m p) p.recording.disk (meant p.font p.recording.budget p.recording.disk)
    p.recording.frames
