use Rattle.std.proofs.Common.{◌∙◌, ap, sym, subst, arith, List, length, take, drop, ◌++◌}
use Rattle.std.specs.Prelude.{OnOk}
use Rattle.std.proofs.lemmas.List.{take_at}
use Rattle.w4_defs.specs.declared.console.Input.{Input}
use Rattle.w4_defs.specs.Recording.{Recording}
use Rattle.w4_defs.specs.KeptList.{Entry, last_up_to}
use Rattle.w4_editor.specs.Player.{player_setup}
use Rattle.w4_editor.specs.Settling.{AreLinked, StaysConsistent}
use Rattle.w4_editor.specs.Showing.{IsOfRun}
use Rattle.w4_editor.proofs.showing.show.Goals as goal

pub returns-clause-consistent : goal.returns-clause-consistent
returns-clause-consistent g c =
    let setup = player_setup c.args.player.now in
    let items = c.args.kept.now.items in
    let new = c.show_place.new.kept in
    let after = take c.args.kept.now.len (new ++ drop (length {A = Entry} new) items) in
    let inputs_are = c.as_slice-inputs.ensures.value ∙ ap (λ (r : Recording). r.frames) c.recording.view_is in
    let many = c.show_place.ensures.places.many in
    let long = c.as_mut_slice.ensures.len in
    let whole =
    take_at new (drop (length {A = Entry} new) items) c.args.kept.now.len (omega (arith, many, long)) in
    subst (λ (inputs : List Input). StaysConsistent setup inputs items after) inputs_are
    (subst (λ (kept : List Entry). StaysConsistent setup c.as_slice-inputs.result.now kept after)
    c.as_mut_slice.ensures.value
    (subst (StaysConsistent setup c.as_slice-inputs.result.now c.as_mut_slice.result.now) (sym whole)
    c.show_place.ensures.consistent))

pub returns-clause-state : goal.returns-clause-state
returns-clause-state g c =
    let setup = player_setup c.args.player.now in
    let state = c.show_place.new.player.state in
    let inputs_are = c.as_slice-inputs.ensures.value ∙ ap (λ (r : Recording). r.frames) c.recording.view_is in
    subst (λ (inputs : List Input). OnOk c.show_place.result
    (IsOfRun setup inputs c.args.kept.now.items c.args.p state))
    inputs_are
    (subst (λ (kept : List Entry). OnOk c.show_place.result
    (IsOfRun setup c.as_slice-inputs.result.now kept c.args.p state)) c.as_mut_slice.ensures.value
    c.show_place.ensures.state)

pub returns-clause-linked : goal.returns-clause-linked
returns-clause-linked g c all = c.show_place.ensures.linked
    (subst (λ (kept : List Entry). AreLinked (last_up_to c.args.p kept) kept)
    (sym c.as_mut_slice.ensures.value) all)
