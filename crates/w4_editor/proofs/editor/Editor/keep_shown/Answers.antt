use Rattle.std.proofs.Common.{ℕ, Option, subst, sym, refl, Some}
use Rattle.w4_defs.specs.KeptList.{IsConsistent}
use Rattle.w4_editor.specs.Player.{player_setup}
use Rattle.w4_editor.specs.Editor.{Editing}
use Rattle.w4_editor.specs.Playing.{CanKeep, IsPut}
use Rattle.w4_editor.proofs.EditorLaws.{stays, place_shown, run_here, within_here, put_consistent, view}
use Rattle.w4_editor.proofs.EditorLaws.{is_put}
use Rattle.w4_editor.proofs.editor.Editor.keep_shown.Goals as goal

pub invariant_of-self-2 : goal.invariant_of-self-2
invariant_of-self-2 c =
    let inside = c.self.inside in
    let can = subst (CanKeep c.args.p) (sym c.self.view_is) c.requires in
    let setup = player_setup inside.player in
    let put = put_consistent _ _ _ _ _ _ _ c.self.invariant c.args.p can.at can.fresh can.room can.linked
    c.keep.ensures.globals in
    stays _ _ _ _ _ _ _ c.self.invariant inside.player c.keep.new.kept.items (Some c.args.p) refl
    (subst (IsConsistent setup inside.recording.disk inside.recording.frames)
    (sym c.in_ok-copied.ensures.ok) put)
    (place_shown setup inside.recording.disk inside.recording c.keep.new.kept.items
    inside.older.items inside.newer.items inside.player.state c.args.p
    (within_here _ _ _ _ _ _ _ c.self.invariant c.args.p can.at)
    (run_here _ _ _ _ _ _ _ c.self.invariant c.args.p can.at))

pub returns-clause-ok : goal.returns-clause-ok
returns-clause-ok c =
    let inside = c.self.inside in
    let can = subst (CanKeep c.args.p) (sym c.self.view_is) c.requires in
    let after : Option ℕ → Editing =
    view inside.player inside.recording c.keep.new.kept.items inside.older inside.newer in
    let copied = c.in_ok-copied.copied in
    subst (λ (old : Editing). IsPut c.args.p copied old (after (Some c.args.p))) c.self.view_is
    (subst (λ (at : Option ℕ). IsPut c.args.p copied (view inside.player inside.recording inside.kept.items
    inside.older inside.newer inside.at) (after at)) can.at
    (is_put inside.player inside.recording inside.kept.items inside.older inside.newer inside.at
    inside.reset_frame c.self.invariant c.args.p can.at can.fresh can.room c.keep.new.kept.items
    c.in_ok-copied.ensures.ok copied c.in_ok-copied.ensures.copied))
