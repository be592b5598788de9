use Rattle.std.proofs.Common.{◌≡◌, ◌≤◌}
use Rattle.w4_editor.specs.Settling.{AreLinked}
use Rattle.w4_segments.proofs.rounds.unlinked.Given as goal

abbrev pub invariant-loop-entry : goal.invariant-loop-entry
invariant-loop-entry l =
    (l.count ≤ l.entry)
    × (l.count ≡ 0 → AreLinked l.entry l.editor.session.current.kept)
    × (AreLinked l.last l.editor.session.current.kept → l.count ≡ 0)
