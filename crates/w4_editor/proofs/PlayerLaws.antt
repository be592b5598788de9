-- Laws of playing: the state at a place from an entry that is linked.
use Rattle.std.proofs.Common.{◌≡◌, ℕ, suc, ◌+◌, ◌-◌, ◌<◌, ◌≤◌, List, [], ◌∷◌, length, get_or, Option}
use Rattle.std.proofs.Common.{Some, None, refl, sym, ap, ◌∙◌, subst, arith}
use Rattle.std.specs.Option.{option_and_then, option_map, unwrap_or}
use Rattle.std.proofs.lemmas.Option.{slice_get-get_or}
use Rattle.std.specs.List.{slice_range}
use Rattle.w4_defs.specs.declared.console.Input.{Input}
use Rattle.w4_defs.specs.declared.value.Val.{Val}
use Rattle.w4_defs.specs.Module.{WasmModule}
use Rattle.w4_defs.specs.RunLaws.{types_of}
use Rattle.w4_defs.specs.State.{State, Moment, HasGlobals}
use Rattle.w4_defs.specs.Reset.{Setup}
use Rattle.w4_defs.specs.Frame.{frame}
use Rattle.w4_defs.specs.Run.{fold, run, run_state}
use Rattle.w4_defs.proofs.RunLaws.{runs_between, runs_on}
use Rattle.w4_editor.specs.Player.{Player, player_setup, in_state}
use Rattle.w4_editor.specs.Showing.{MovesOn}

-- the inputs between two places of a run lead from the one state to the other
pub links_run : (setup : Setup) (disk : List ℕ) (inputs : List Input) (a b : ℕ) (s t : State) → a ≤ b
    → run_state setup disk inputs a ≡ Some s → run_state setup disk inputs b ≡ Some t
    → fold setup s (slice_range inputs a b) ≡ Some t
links_run setup disk inputs a b s t le here there =
    let more : a + (b - a) ≡ b = omega arith in
    sym (ap (option_and_then (λ state. fold setup state (slice_range inputs a b))) here)
    ∙ sym (runs_between setup disk inputs a (b - a))
    ∙ ap (run_state setup disk inputs) more
    ∙ there

pub run_links : (setup : Setup) (disk : List ℕ) (inputs : List Input) (a b : ℕ) (s t : State) → a ≤ b
    → run_state setup disk inputs a ≡ Some s → fold setup s (slice_range inputs a b) ≡ Some t
    → run_state setup disk inputs b ≡ Some t
run_links setup disk inputs a b s t le here link =
    let more : b ≡ a + (b - a) = omega arith in
    ap (run_state setup disk inputs) more
    ∙ runs_between setup disk inputs a (b - a)
    ∙ ap (option_and_then (λ state. fold setup state (slice_range inputs a b))) here
    ∙ link

-- a player that changes its state twice is the first in its last state
pub still_in_state : (first now next : Player) → now ≡ in_state first now.state
    → next ≡ in_state now next.state
    → next ≡ in_state first next.state
still_in_state first now next a b = b ∙ ap (λ (p : Player). in_state p next.state) a

-- two states of one cart have as many globals
pub types_as_many : (globals : List Val) → length (types_of globals) ≡ length globals
types_as_many [] = refl
types_as_many (v ∷ globals) = ap suc (types_as_many globals)

pub globals_as_long : (cart : WasmModule) (one other : State) → HasGlobals cart one → HasGlobals cart other
    → length one.globals ≡ length other.globals
globals_as_long cart one other a b =
    sym (types_as_many one.globals) ∙ ap length (a ∙ sym b) ∙ types_as_many other.globals

-- a player in another state has the same setup
pub same_setup : (first now : Player) → now ≡ in_state first now.state → player_setup now ≡ player_setup first
same_setup first now same = ap (λ (p : Player). player_setup p) same

pub same_cart : (first now : Player) (state : State) → now ≡ in_state first now.state
    → HasGlobals now.cart state
    → HasGlobals first.cart state
same_cart first now state same is = subst (λ (p : Player). HasGlobals p.cart state) same is

-- from the state of a run to its next moment
next_of : (setup : Setup) (moment : Option Moment) (state : State) (input : Input) (next : Moment)
    → option_map (λ (m : Moment). m.state) moment ≡ Some state → frame setup state input ≡ Some next
    → option_and_then (λ (m : Moment). frame setup m.state input) moment ≡ Some next
next_of setup None state input next is one = absurd cc
next_of setup (Some m) state input next is one =
    let same : m.state ≡ state = ap (λ o. unwrap_or o m.state) is in
    ap (λ s. frame setup s input) same ∙ one

pub moves_on : (setup : Setup) (inputs : List Input) (p : ℕ) (state : State) (d : Input) (next : Moment)
    → p < length inputs
    → frame setup state (get_or inputs p d) ≡ Some next → MovesOn setup inputs p state next
moves_on setup inputs p state d next lt one disk is =
    runs_on setup disk inputs p (get_or inputs p d) (slice_get-get_or inputs p d lt)
    ∙ next_of setup (run setup disk inputs p) state (get_or inputs p d) next is one
