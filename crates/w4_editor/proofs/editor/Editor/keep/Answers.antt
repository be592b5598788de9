use Rattle.std.proofs.Common.{◌≡◌, sym, subst, None}
use Rattle.w4_defs.specs.KeptList.{kept_entries}
use Rattle.w4_defs.specs.Session.{keep_refusal}
use Rattle.w4_editor.specs.Editor.{Editing}
use Rattle.w4_editor.proofs.EditorLaws.{can_keep}
use Rattle.w4_editor.proofs.editor.Editor.keep.Goals as goal

pub keep_shown-requires : goal.keep_shown-requires
keep_shown-requires g c =
    can_keep c.args.p c.args.steps.now c.go_to.new.steps c.args.self.now c.go_to.new.self
    c.in_ok-go_to.ensures.ok
    (subst (λ (e : Editing). keep_refusal kept_entries c.args.p e.session.current ≡ None) c.self.view_is
    (sym c.in_default.ensures))
