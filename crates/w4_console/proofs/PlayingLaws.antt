-- Laws of playing: one input more.
use Rattle.std.proofs.Common.{◌≡◌, ℕ, ◌+◌, ◌<◌, List, [], ◌∷◌, length, take, get_or, Some, ap, ◌∙◌}
use Rattle.std.specs.Option.{option_and_then}
use Rattle.std.proofs.lemmas.List.{take_more}
use Rattle.w4_defs.specs.declared.console.Input.{Input}
use Rattle.w4_defs.specs.State.{State, Moment}
use Rattle.w4_defs.specs.Reset.{Setup}
use Rattle.w4_defs.specs.Frame.{frame}
use Rattle.w4_defs.specs.Run.{fold}
use Rattle.w4_defs.proofs.RunLaws.{folds_in_parts}

-- a run of one input more
pub fold_more : (setup : Setup) (state now : State) (next : Moment) (inputs : List Input) (i : ℕ) (d : Input)
    → i < length inputs → fold setup state (take i inputs) ≡ Some now
    → frame setup now (get_or inputs i d) ≡ Some next
    → fold setup state (take (i + 1) inputs) ≡ Some next.state
fold_more setup state now next inputs i d lt before one =
    let last : List Input = get_or inputs i d ∷ [] in
    ap (fold setup state) (take_more inputs i d lt)
    ∙ folds_in_parts setup state (take i inputs) last
    ∙ ap (option_and_then (λ s. fold setup s last)) before
    ∙ ap (option_and_then (λ (m : Moment). Some m.state)) one
