use Rattle.std.proofs.Common.{◌≡◌, false, List, Some, ◌∙◌, ap, subst}
use Rattle.std.specs.Bool.{Decides}
use Rattle.std.specs.List.{slice_get}
use Rattle.w4_defs.specs.declared.console.Input.{Input}
use Rattle.w4_defs.specs.Recording.{Recording}
use Rattle.w4_netplay.proofs.RollbackLaws.{is_found, is_past}
use Rattle.w4_netplay.proofs.rollback.has_input.Goals as goal

pub returns-in-Some : goal.returns-in-Some
returns-in-Some c =
    let same = c.deref.ensures.value ∙ ap (λ (r : Recording). r.frames) c.recording.view_is in
    subst (λ (inputs : List Input). Decides c.eq.result (slice_get inputs c.args.k ≡ Some c.args.input.now))
    same
    (is_found c.deref.result.now c.args.k c.in-Some.there.now c.args.input.now c.eq.result
    c.in-Some.ensures.lookup.3.0 c.in-Some.ensures.lookup.1 c.eq.ensures)

pub returns-in-None : goal.returns-in-None
returns-in-None c =
    let same = c.deref.ensures.value ∙ ap (λ (r : Recording). r.frames) c.recording.view_is in
    subst (λ (inputs : List Input). Decides false (slice_get inputs c.args.k ≡ Some c.args.input.now)) same
    (is_past c.deref.result.now c.args.k c.args.input.now c.in-None.ensures.lookup.3)
