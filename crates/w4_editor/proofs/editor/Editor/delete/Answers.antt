use Rattle.std.proofs.Common.{ap, ◌∙◌, subst, length, ◌<◌, arith}
use Rattle.w4_defs.specs.KeptList.{IsDraft}
use Rattle.w4_editor.specs.declared.editor.Editor.TheInside.{Inside}
use Rattle.w4_editor.specs.Editor.{Editing, editing_setup}
use Rattle.w4_editor.proofs.HistoryLaws.{delete_is_good}
use Rattle.w4_editor.proofs.editor.Editor.delete.Goals as goal

pub accept-requires : goal.accept-requires
accept-requires c =
    let lt : c.args.k < length c.as_slice-inputs.result.now = omega arith in
    subst (λ (e : Editing). IsDraft (editing_setup e) e.disk c.in_ok-draft.draft) c.self.view_is
    (delete_is_good c.self.inside.player c.self.inside.recording c.self.inside.kept.items
    c.self.inside.older c.self.inside.newer c.self.inside.at c.self.inside.reset_frame c.self.invariant
    c.args.k c.as_slice-inputs.result.now c.as_slice.result.now c.in_ok-draft.draft
    (c.as_slice-inputs.ensures.value ∙ ap (λ (i : Inside). i.recording.frames) c.self-inside.view_is)
    (c.as_slice.ensures.value ∙ ap (λ (i : Inside). i.kept.items) c.self-inside.view_is) lt
    c.in_ok-draft.ensures)
