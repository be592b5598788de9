use Rattle.std.proofs.Common.{ap, ◌∙◌, sym, [], ◌∷◌, ◌++◌}
use Rattle.circular_buffer.specs.Buffer.{buffer}
use Rattle.w4_defs.specs.KeptList.{Entry}
use Rattle.w4_defs.specs.Session.{Draft, keep_last}
use Rattle.w4_editor.proofs.HistoryLaws.{comes_back, redo_leaves}
use Rattle.w4_editor.proofs.editor.Editor.redo.Goals as goal

pub exchange-redone-requires : goal.exchange-redone-requires
exchange-redone-requires c = (comes_back c.self.inside.player c.self.inside.recording c.self.inside.kept.items
    c.self.inside.older c.self.inside.newer c.self.inside.at c.self.inside.reset_frame c.self.invariant
    c.self.inside.newer.items c.in-Some.draft c.self.invariant.session.newer
    (sym c.pop_back.ensures.value ∙ c.in-Some.is)).few

pub invariant_of-self-2 : goal.invariant_of-self-2
invariant_of-self-2 c = redo_leaves c.self.inside.player c.self.inside.recording c.self.inside.kept.items
    c.self.inside.older c.self.inside.newer c.self.inside.at c.self.inside.reset_frame c.self.invariant
    c.in-Some.draft c.exchange-redone.new.recording c.exchange-redone.new.kept.items c.push_back.new.self
    c.pop_back.new.self
    (sym c.pop_back.ensures.value ∙ c.in-Some.is) c.exchange-redone.ensures.recording
    c.exchange-redone.ensures.kept
    (c.push_back.ensures.items ∙ ap (λ (draft : Draft Entry). buffer (keep_last c.self.inside.older.capacity
    (c.self.inside.older.items ++ draft ∷ [])) c.self.inside.older.capacity) c.exchange-redone.ensures.before)
    c.pop_back.ensures.items
