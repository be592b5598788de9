use Rattle.std.proofs.Common.{◌≡◌, ◌+◌, ◌∙◌, ap, sym, subst, Some, true, false}
use Rattle.w4_defs.specs.KeptList.{Entry, state_at}
use Rattle.w4_defs.specs.State.{HasGlobals}
use Rattle.w4_editor.specs.Player.{player_setup}
use Rattle.w4_editor.specs.Settling.{IsComputed}
use Rattle.w4_editor.proofs.PlayerLaws.{same_cart}
use Rattle.w4_editor.proofs.SettlingLaws.{relinked_computed, replaced_computed}
use Rattle.w4_editor.proofs.settling.settle_one.Goals as goal

pub returns-then-same-clause-ok : goal.returns-then-same-clause-ok
returns-then-same-clause-ok g c =
    let setup = player_setup c.args.player.now in
    let kept = c.args.kept.now in
    let i = c.args.i in
    let snap : c.snap.result.now ≡ state_at kept (i + 1) =
    c.snap.ensures ∙ ap (λ (x : Entry). x.state) c.entry_at.ensures in
    let same : c.compute.new.player.state ≡ state_at kept (i + 1) =
    sym c.state.ensures ∙ sym (c.same.ensures.0 c.if-same.true) ∙ snap in
    subst (IsComputed setup c.args.inputs.now i kept) (sym c.link_at.ensures)
    (relinked_computed setup c.args.inputs.now i kept c.requires.there
    (c.compute.ensures.computed ∙ ap Some same) (c.requires.kept.globals (i + 1) c.requires.there))

pub returns-clause-ok : goal.returns-clause-ok
returns-clause-ok g c =
    let setup = player_setup c.args.player.now in
    let kept = c.args.kept.now in
    let i = c.args.i in
    let now = c.compute.new.player in
    let snap : c.snap.result.now ≡ state_at kept (i + 1) =
    c.snap.ensures ∙ ap (λ (x : Entry). x.state) c.entry_at.ensures in
    let put : c.in_ok-snap.snap.value ≡ now.state = c.in_ok-snap.ensures.state in
    let globals =
    same_cart c.args.player.now now now.state c.compute.ensures.same c.compute.ensures.globals in
    subst (IsComputed setup c.args.inputs.now i kept) (sym c.replace_at.ensures)
    (replaced_computed setup c.args.inputs.now i kept c.in_ok-snap.snap.value c.requires.there
    (c.compute.ensures.computed ∙ ap Some (sym put))
    (subst (HasGlobals c.args.player.now.cart) (sym put) globals)
    (λ e.
    let found : false
    ≡ true = sym c.if-same.false ∙ c.same.ensures.1 (snap ∙ e ∙ put ∙ sym c.state.ensures) in cc))
