use Rattle.std.proofs.Common.{◌-◌, length, None, subst, sym}
use Rattle.w4_editor.specs.Player.{player_setup}
use Rattle.w4_editor.specs.Settling.{AreLinked}
use Rattle.w4_editor.specs.Editor.{Editing}
use Rattle.w4_editor.proofs.EditorLaws.{stays, none_shown, states_of_run}
use Rattle.w4_editor.proofs.editor.Editor.settle.Goals as goal

pub invariant_of-self : goal.invariant_of-self
invariant_of-self g c =
    let inside = c.self.inside in
    stays _ _ _ _ _ _ _ c.self.invariant c.settle_all.new.player c.settle_all.new.kept.items None
    c.settle_all.ensures.same
    (c.settle_all.ensures.consistent inside.recording.disk c.self.invariant.session.current.kept)
    (none_shown (player_setup inside.player) inside.recording.disk inside.recording
    c.settle_all.new.kept.items inside.older.items inside.newer.items c.settle_all.new.player.state)

pub returns-in_err-settle_all-clause-linked : goal.returns-in_err-settle_all-clause-linked
returns-in_err-settle_all-clause-linked g c all =
    let refused = c.in_err-settle_all.ensures.linked
    (subst (λ (e : Editing). AreLinked (length e.session.current.kept - 1) e.session.current.kept)
    (sym c.self.view_is) all) in
    absurd cc

pub invariant_of-self-2 : goal.invariant_of-self-2
invariant_of-self-2 g c =
    let inside = c.self.inside in
    stays _ _ _ _ _ _ _ c.self.invariant c.settle_all.new.player c.settle_all.new.kept.items None
    c.settle_all.ensures.same
    (c.settle_all.ensures.consistent inside.recording.disk c.self.invariant.session.current.kept)
    (none_shown (player_setup inside.player) inside.recording.disk inside.recording
    c.settle_all.new.kept.items inside.older.items inside.newer.items c.settle_all.new.player.state)

pub returns-clause-states : goal.returns-clause-states
returns-clause-states g c =
    let inside = c.self.inside in
    states_of_run c.settle_all.new.player inside.recording c.settle_all.new.kept.items inside.older
    inside.newer
    None inside.reset_frame
    (stays _ _ _ _ _ _ _ c.self.invariant c.settle_all.new.player c.settle_all.new.kept.items None
    c.settle_all.ensures.same
    (c.settle_all.ensures.consistent inside.recording.disk c.self.invariant.session.current.kept)
    (none_shown (player_setup inside.player) inside.recording.disk inside.recording
    c.settle_all.new.kept.items inside.older.items inside.newer.items c.settle_all.new.player.state))
    inside.kept.items c.in_ok-settle_all.ensures.settled
