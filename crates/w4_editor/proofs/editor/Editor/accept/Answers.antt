use Rattle.std.proofs.Common.{ap, ◌∙◌, sym, subst, [], ◌∷◌, ◌++◌}
use Rattle.circular_buffer.specs.Buffer.{buffer}
use Rattle.w4_defs.specs.KeptList.{Entry, IsDraft}
use Rattle.w4_defs.specs.Session.{Draft, keep_last}
use Rattle.w4_editor.specs.Editor.{Editing, editing_setup}
use Rattle.w4_editor.proofs.HistoryLaws.{edit_leaves}
use Rattle.w4_editor.proofs.editor.Editor.accept.Goals as goal

pub invariant_of-self : goal.invariant_of-self
invariant_of-self c = edit_leaves c.self.inside.player c.self.inside.recording c.self.inside.kept.items
    c.self.inside.older c.self.inside.newer c.self.inside.at c.self.inside.reset_frame c.self.invariant
    c.args.draft c.exchange-before.new.recording c.exchange-before.new.kept.items c.push_back.new.self
    c.clear.new.self
    (subst (λ (e : Editing). IsDraft (editing_setup e) e.disk c.args.draft) (sym c.self.view_is) c.requires)
    c.exchange-before.ensures.recording c.exchange-before.ensures.kept
    (c.push_back.ensures.items ∙ ap (λ (draft : Draft Entry). buffer (keep_last c.self.inside.older.capacity
    (c.self.inside.older.items ++ draft ∷ [])) c.self.inside.older.capacity) c.exchange-before.ensures.before)
    c.clear.ensures
