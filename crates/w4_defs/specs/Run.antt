-- Runs: frames one after another, from any state or from a reset.
use Rattle.std.specs.Prelude.{◌≡◌, ◌+◌, ◌++◌, drop, slice_get, option_map, ℕ, List, [], ◌∷◌, take, Option, Some, option_and_then}
use Rattle.w4_defs.specs.declared.console.Input.{Input}
use Rattle.w4_defs.specs.State.{State, Moment}
use Rattle.w4_defs.specs.Reset.{Setup, reset}
use Rattle.w4_defs.specs.Frame.{frame}

-- the state after these inputs, one after another
abbrev pub fold : Setup → State → List Input → Option State
fold setup state [] = Some state
fold setup state (input ∷ inputs) =
    option_and_then (λ next. fold setup next.state inputs) (frame setup state input)

-- the state and the record after these inputs from a moment on
abbrev pub played_on : Setup → Moment → List Input → Option Moment
played_on setup moment [] = Some moment
played_on setup moment (input ∷ inputs) =
    option_and_then (λ next. played_on setup next inputs) (frame setup moment.state input)

-- a run from reset with this disk: the state and the record after the first so many inputs
abbrev pub run : Setup → List ℕ → List Input → ℕ → Option Moment
run setup disk inputs place =
    option_and_then (λ moment. played_on setup moment (take place inputs)) (reset setup disk)

-- its state alone
abbrev pub run_state : Setup → List ℕ → List Input → ℕ → Option State
run_state setup disk inputs place = option_map (λ moment. moment.state) (run setup disk inputs place)

-- its page alone
abbrev pub run_page : Setup → List ℕ → List Input → ℕ → Option (List ℕ)
run_page setup disk inputs place =
    option_map (λ (state : State). state.page) (run_state setup disk inputs place)

-- a run in two parts: the second goes on from where the first ends
abbrev pub PlaysInParts : Type 0
PlaysInParts = (setup : Setup) (moment : Moment) (first rest : List Input) →
    played_on setup moment (first ++ rest)
    ≡ option_and_then (λ next. played_on setup next rest) (played_on setup moment first)

abbrev pub FoldsInParts : Type 0
FoldsInParts = (setup : Setup) (state : State) (first rest : List Input) →
    fold setup state (first ++ rest) ≡ option_and_then (λ next. fold setup next rest) (fold setup state first)

-- the state of a moment decides how it goes on
abbrev pub FoldsState : Type 0
FoldsState = (setup : Setup) (moment : Moment) (inputs : List Input) →
    option_map (λ next. next.state) (played_on setup moment inputs) ≡ fold setup moment.state inputs

-- the next place of a run is one frame on
abbrev pub RunsOn : Type 0
RunsOn = (setup : Setup) (disk : List ℕ) (inputs : List Input) (place : ℕ) (input : Input) →
    slice_get inputs place ≡ Some input →
    run setup disk inputs (place + 1)
    ≡ option_and_then (λ moment. frame setup moment.state input) (run setup disk inputs place)

-- a later place of a run is the fold of the inputs between
abbrev pub RunsBetween : Type 0
RunsBetween = (setup : Setup) (disk : List ℕ) (inputs : List Input) (place more : ℕ) →
    run_state setup disk inputs (place + more)
    ≡ option_and_then (λ state. fold setup state (take more (drop place inputs)))
    (run_state setup disk inputs place)
