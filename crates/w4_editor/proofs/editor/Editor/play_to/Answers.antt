use Rattle.std.proofs.Common.{◌≤◌, length, Some, None, subst, sym}
use Rattle.w4_defs.specs.KeptList.{last_up_to}
use Rattle.w4_editor.specs.Player.{player_setup}
use Rattle.w4_editor.specs.Settling.{AreLinked}
use Rattle.w4_editor.specs.Editor.{Editing}
use Rattle.w4_editor.proofs.EditorLaws.{stays, none_shown, place_shown}
use Rattle.w4_editor.proofs.editor.Editor.play_to.Goals as goal

pub invariant_of-self : goal.invariant_of-self
invariant_of-self g c =
    let inside = c.self.inside in
    stays _ _ _ _ _ _ _ c.self.invariant c.show.new.player c.show.new.kept.items None c.show.ensures.same
    (c.show.ensures.consistent inside.recording.disk c.self.invariant.session.current.kept)
    (none_shown (player_setup inside.player) inside.recording.disk inside.recording c.show.new.kept.items
    inside.older.items inside.newer.items c.show.new.player.state)

pub returns-in_err-show-clause-linked : goal.returns-in_err-show-clause-linked
returns-in_err-show-clause-linked g c all =
    let refused = c.in_err-show.ensures.linked
    (subst (λ (e : Editing). AreLinked (last_up_to c.args.p e.session.current.kept) e.session.current.kept)
    (sym c.self.view_is) all) in
    absurd cc

pub invariant_of-self-2 : goal.invariant_of-self-2
invariant_of-self-2 g c =
    let inside = c.self.inside in
    let consistent = c.self.invariant.session.current.kept in
    let within =
    subst (λ (e : Editing). c.args.p ≤ length e.session.current.inputs) (sym c.self.view_is) c.requires in
    stays _ _ _ _ _ _ _ c.self.invariant c.show.new.player c.show.new.kept.items
    (Some c.args.p) c.show.ensures.same
    (c.show.ensures.consistent inside.recording.disk consistent)
    (place_shown (player_setup inside.player) inside.recording.disk inside.recording c.show.new.kept.items
    inside.older.items inside.newer.items c.show.new.player.state c.args.p within
    (c.in_ok-show.ensures.state inside.recording.disk consistent))
