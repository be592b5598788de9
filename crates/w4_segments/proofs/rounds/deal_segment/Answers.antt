use Rattle.std.proofs.Common.{length, ap, ◌∙◌}
use Rattle.w4_defs.specs.State.{State}
use Rattle.w4_editor.proofs.EditorLaws.{globals_as_many}
use Rattle.w4_segments.proofs.rounds.deal_segment.Goals as goal

pub kept_restore-requires-clause-globals : goal.kept_restore-requires-clause-globals
kept_restore-requires-clause-globals c =
    ap (λ (s : State). length s.globals) c.state_mut.ensures.value
    ∙ globals_as_many c.args.editor.now.cart c.args.worker.now.console c.requires.types
