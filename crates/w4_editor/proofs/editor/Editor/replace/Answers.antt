use Rattle.std.proofs.Common.{◌≡◌, ◌<◌, ◌-◌, length, subst, sym, refl, arith, Some}
use Rattle.w4_defs.specs.KeptList.{IsConsistent, computed, state_at, kept_segment}
use Rattle.w4_editor.specs.Player.{player_setup}
use Rattle.w4_editor.specs.Editor.{Editing, editing_setup}
use Rattle.w4_editor.proofs.EditorLaws.{stays}
use Rattle.w4_editor.proofs.ShowingLaws.{replace_consistent}
use Rattle.w4_editor.proofs.EditorTypeLaws.{fold_keeps}
use Rattle.w4_editor.proofs.editor.Editor.replace.Goals as goal

pub invariant_of-self-2 : goal.invariant_of-self-2
invariant_of-self-2 c =
    let inside = c.self.inside in
    let kept = inside.kept.items in
    let i = c.args.i in
    let setup = player_setup inside.player in
    let is = c.self.invariant.session.current.kept in
    let there =
    subst (λ (e : Editing). i < length e.session.current.kept) (sym c.self.view_is) c.requires.there in
    let state = subst
    (λ (e : Editing). computed (editing_setup e) e.session.current.inputs e.session.current.kept (i - 1)
    ≡ Some c.args.state.now) (sym c.self.view_is) c.requires.state in
    let globals = fold_keeps inside.player.cart inside.player.font inside.player.budget
    (state_at kept (i - 1))
    c.args.state.now (kept_segment inside.recording.frames kept (i - 1)) c.has_types.ensures.first
    (is.true_links.globals (i - 1) (omega (arith, there))) state in
    stays _ _ _ _ _ _ _ c.self.invariant inside.player c.replace.new.kept.items inside.at refl
    (subst (IsConsistent setup inside.recording.disk inside.recording.frames) (sym c.in_ok-replace.ensures.ok)
    (replace_consistent setup inside.recording.disk inside.recording.frames kept i c.requires.some there is
    c.args.state.now state globals))
    c.self.invariant.shown
