use Rattle.std.proofs.Common.{◌≡◌, ◌∙◌, ap, sym, subst, arith, true, List, length, take, drop, ◌++◌}
use Rattle.std.proofs.lemmas.List.{take_at}
use Rattle.w4_defs.specs.declared.console.Input.{Input}
use Rattle.w4_defs.specs.Recording.{Recording}
use Rattle.w4_defs.specs.KeptList.{Entry, linked_at}
use Rattle.w4_editor.specs.Player.{player_setup}
use Rattle.w4_editor.specs.Settling.{StaysConsistent}
use Rattle.w4_editor.proofs.showing.settle_all.Goals as goal

pub returns-clause-consistent : goal.returns-clause-consistent
returns-clause-consistent g c =
    let setup = player_setup c.args.player.now in
    let items = c.args.kept.now.items in
    let new = c.settle.new.kept in
    let after = take c.args.kept.now.len (new ++ drop (length {A = Entry} new) items) in
    let inputs_are = c.as_slice-inputs.ensures.value ∙ ap (λ (r : Recording). r.frames) c.recording.view_is in
    let many = c.settle.ensures.places.many in
    let long = c.as_mut_slice.ensures.len in
    let whole =
    take_at new (drop (length {A = Entry} new) items) c.args.kept.now.len (omega (arith, many, long)) in
    subst (λ (inputs : List Input). StaysConsistent setup inputs items after) inputs_are
    (subst (λ (kept : List Entry). StaysConsistent setup c.as_slice-inputs.result.now kept after)
    c.as_mut_slice.ensures.value
    (subst (StaysConsistent setup c.as_slice-inputs.result.now c.as_mut_slice.result.now) (sym whole)
    c.settle.ensures.consistent))

pub returns-clause-linked : goal.returns-clause-linked
returns-clause-linked g c all = c.settle.ensures.linked
    (λ i le.
    let long = c.len-last.ensures in
    subst (λ (kept : List Entry). linked_at kept i ≡ true) (sym c.as_mut_slice.ensures.value)
    (all i (omega (arith, le, long))))
