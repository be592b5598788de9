use Rattle.std.proofs.Common.{ap, ◌∙◌, sym, [], ◌∷◌, ◌++◌}
use Rattle.circular_buffer.specs.Buffer.{buffer}
use Rattle.w4_defs.specs.KeptList.{Entry}
use Rattle.w4_defs.specs.Session.{Draft, keep_last}
use Rattle.w4_editor.proofs.HistoryLaws.{comes_back, undo_leaves}
use Rattle.w4_editor.proofs.editor.Editor.undo.Goals as goal

pub exchange-undone-requires : goal.exchange-undone-requires
exchange-undone-requires c = (comes_back c.self.inside.player c.self.inside.recording c.self.inside.kept.items
    c.self.inside.older c.self.inside.newer c.self.inside.at c.self.inside.reset_frame c.self.invariant
    c.self.inside.older.items c.in-Some.draft c.self.invariant.session.older
    (sym c.pop_back.ensures.value ∙ c.in-Some.is)).few

pub invariant_of-self-2 : goal.invariant_of-self-2
invariant_of-self-2 c = undo_leaves c.self.inside.player c.self.inside.recording c.self.inside.kept.items
    c.self.inside.older c.self.inside.newer c.self.inside.at c.self.inside.reset_frame c.self.invariant
    c.in-Some.draft c.exchange-undone.new.recording c.exchange-undone.new.kept.items c.pop_back.new.self
    c.push_back.new.self
    (sym c.pop_back.ensures.value ∙ c.in-Some.is) c.exchange-undone.ensures.recording
    c.exchange-undone.ensures.kept
    c.pop_back.ensures.items
    (c.push_back.ensures.items ∙ ap (λ (draft : Draft Entry). buffer (keep_last c.self.inside.newer.capacity
    (c.self.inside.newer.items ++ draft ∷ [])) c.self.inside.newer.capacity) c.exchange-undone.ensures.before)
