use Rattle.std.proofs.Common.{sym, subst}
use Rattle.w4_defs.specs.KeptList.{IsConsistent}
use Rattle.w4_editor.specs.Player.{player_setup}
use Rattle.w4_editor.proofs.HistoryLaws.{kept_leaves}
use Rattle.w4_editor.proofs.EditorKeepLaws.{drop_consistent}
use Rattle.w4_editor.proofs.editor.Editor.drop_kept.Goals as goal

pub invariant_of-self : goal.invariant_of-self
invariant_of-self c = kept_leaves c.self.inside.player c.self.inside.recording c.self.inside.kept.items
    c.self.inside.older c.self.inside.newer c.self.inside.at c.self.inside.reset_frame c.self.invariant
    c.drop_at.new.kept.items (record {
      few = c.self.invariant.session.current.few;
      kept = subst (IsConsistent (player_setup c.self.inside.player) c.self.inside.recording.disk
          c.self.inside.recording.frames)
          (sym c.drop_at.ensures) (drop_consistent
          (player_setup c.self.inside.player) c.self.inside.recording.disk
          c.self.inside.recording.frames c.self.inside.kept.items c.args.p c.if-p-eq0.false
          c.self.invariant.session.current.kept);
    })
