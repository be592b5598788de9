use Rattle.std.proofs.Common.{◌≡◌, ◌<◌, ◌-◌, length, subst, sym, refl, Some}
use Rattle.w4_defs.specs.KeptList.{IsConsistent, computed, state_at}
use Rattle.w4_editor.specs.Player.{player_setup}
use Rattle.w4_editor.specs.Editor.{Editing, editing_setup}
use Rattle.w4_editor.proofs.EditorLaws.{stays}
use Rattle.w4_editor.proofs.ShowingLaws.{link_consistent}
use Rattle.w4_editor.proofs.editor.Editor.link.Goals as goal

pub invariant_of-self : goal.invariant_of-self
invariant_of-self c =
    let inside = c.self.inside in
    let i = c.args.i in
    let setup = player_setup inside.player in
    let there =
    subst (λ (e : Editing). i < length e.session.current.kept) (sym c.self.view_is) c.requires.there in
    let state = subst
    (λ (e : Editing). computed (editing_setup e) e.session.current.inputs e.session.current.kept (i - 1)
    ≡ Some (state_at e.session.current.kept i)) (sym c.self.view_is) c.requires.state in
    stays _ _ _ _ _ _ _ c.self.invariant inside.player c.link.new.kept.items inside.at refl
    (subst (IsConsistent setup inside.recording.disk inside.recording.frames) (sym c.link.ensures)
    (link_consistent setup inside.recording.disk inside.recording.frames inside.kept.items i
    c.requires.some there c.self.invariant.session.current.kept state))
    c.self.invariant.shown
