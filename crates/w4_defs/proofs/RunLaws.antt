-- Laws of runs: in parts, by states alone, and from one place to a later one.
use Rattle.std.proofs.Common.{◌≡◌, ℕ, suc, ◌+◌, List, [], ◌∷◌, ◌++◌, take, drop, Option, Some, None, option_map, refl, sym, ◌∙◌, ap, arith}
use Rattle.std.specs.Option.{option_and_then}
use Rattle.std.specs.List.{slice_get}
use Rattle.std.proofs.Math.Seq.{take-suc, take-add}
use Rattle.std.proofs.lemmas.Option.{get_or_from_slice_get, slice_get_within}
use Rattle.w4_defs.specs.declared.console.Input.{Input}
use Rattle.w4_defs.specs.State.{State, Moment}
use Rattle.w4_defs.specs.Reset.{Setup, reset}
use Rattle.w4_defs.specs.Frame.{frame}
use Rattle.w4_defs.specs.Run.{fold, played_on, PlaysInParts, FoldsInParts, FoldsState, RunsOn, RunsBetween}

-- one partial step after another
pub then_assoc : {A B C : Type 0} (g : B → Option C) (f : A → Option B) (o : Option A) →
    option_and_then g (option_and_then f o) ≡ option_and_then (λ x. option_and_then g (f x)) o
then_assoc g f None = refl
then_assoc g f (Some x) = refl

pub then_same : {A B : Type 0} (f g : A → Option B) → ((x : A) → f x ≡ g x) → (o : Option A) →
    option_and_then f o ≡ option_and_then g o
then_same f g same None = refl
then_same f g same (Some x) = same x

pub then_some : {A : Type 0} (o : Option A) → option_and_then (λ x. Some x) o ≡ o
then_some None = refl
then_some (Some x) = refl

pub map_then : {A B C : Type 0} (h : B → C) (f : A → Option B) (o : Option A) →
    option_map h (option_and_then f o) ≡ option_and_then (λ x. option_map h (f x)) o
map_then h f None = refl
map_then h f (Some x) = refl

pub then_map : {A B C : Type 0} (f : B → Option C) (h : A → B) (o : Option A) →
    option_and_then f (option_map h o) ≡ option_and_then (λ x. f (h x)) o
then_map f h None = refl
then_map f h (Some x) = refl

pub plays_in_parts : PlaysInParts
plays_in_parts setup moment [] rest = refl
plays_in_parts setup moment (input ∷ first) rest =
    let go : List Input → Moment → Option Moment = λ inputs next. played_on setup next inputs in
    then_same (go (first ++ rest)) (λ next. option_and_then (go rest) (go first next))
    (λ next. plays_in_parts setup next first rest) (frame setup moment.state input)
    ∙ sym (then_assoc (go rest) (go first) (frame setup moment.state input))

pub folds_in_parts : FoldsInParts
folds_in_parts setup state [] rest = refl
folds_in_parts setup state (input ∷ first) rest =
    let go : List Input → Moment → Option State = λ inputs next. fold setup next.state inputs in
    let on : State → Option State = λ next. fold setup next rest in
    then_same (go (first ++ rest)) (λ next. option_and_then on (go first next))
    (λ next. folds_in_parts setup next.state first rest) (frame setup state input)
    ∙ sym (then_assoc on (go first) (frame setup state input))

abbrev state_of : Moment → State
state_of moment = moment.state

pub folds_state : FoldsState
folds_state setup moment [] = refl
folds_state setup moment (input ∷ inputs) =
    let go : Moment → Option Moment = λ next. played_on setup next inputs in
    map_then state_of go (frame setup moment.state input)
    ∙ then_same (λ next. option_map state_of (go next)) (λ next. fold setup next.state inputs)
    (λ next. folds_state setup next inputs) (frame setup moment.state input)

one_more : (setup : Setup) (moment : Moment) (input : Input)
    → played_on setup moment (input ∷ []) ≡ frame setup moment.state input
one_more setup moment input = then_some (frame setup moment.state input)

take_next : (inputs : List Input) (place : ℕ) (input : Input) → slice_get inputs place ≡ Some input →
    take (place + 1) inputs ≡ take place inputs ++ (input ∷ [])
take_next inputs place input h =
    let next : place + 1 ≡ suc place = omega arith in
    ap (λ k. take k inputs) next
    ∙ (take-suc inputs place input (slice_get_within inputs place input h)
    ∙ ap (λ x. take place inputs ++ (x ∷ [])) (get_or_from_slice_get inputs place input input h))

pub runs_on : RunsOn
runs_on setup disk inputs place input h =
    let play : List Input → Moment → Option Moment = λ some moment. played_on setup moment some in
    let next : Moment → Option Moment = λ moment. frame setup moment.state input in
    then_same (play (take (place + 1) inputs))
    (λ moment. option_and_then next (play (take place inputs) moment))
    (λ moment. ap (λ some. play some moment) (take_next inputs place input h)
    ∙ (plays_in_parts setup moment (take place inputs) (input ∷ [])
    ∙ then_same (play (input ∷ [])) next (λ last. one_more setup last input)
    (play (take place inputs) moment)))
    (reset setup disk)
    ∙ sym (then_assoc next (play (take place inputs)) (reset setup disk))

pub runs_between : RunsBetween
runs_between setup disk inputs place more =
    let play : List Input → Moment → Option Moment = λ some moment. played_on setup moment some in
    let first = take place inputs in
    let rest = take more (drop place inputs) in
    let on : State → Option State = λ state. fold setup state rest in
    map_then state_of (play (take (place + more) inputs)) (reset setup disk)
    ∙ (then_same (λ moment. option_map state_of (play (take (place + more) inputs) moment))
    (λ moment. option_and_then on (option_map state_of (play first moment)))
    (λ moment. ap (λ some. option_map state_of (play some moment)) (take-add place more inputs)
    ∙ (ap (option_map state_of) (plays_in_parts setup moment first rest)
    ∙ (map_then state_of (play rest) (play first moment)
    ∙ (then_same (λ next. option_map state_of (play rest next)) (λ next. on next.state)
    (λ next. folds_state setup next rest) (play first moment)
    ∙ sym (then_map on state_of (play first moment))))))
    (reset setup disk)
    ∙ (sym (then_assoc on (λ moment. option_map state_of (play first moment)) (reset setup disk))
    ∙ ap (option_and_then on) (sym (map_then state_of (play first) (reset setup disk)))))
