use Rattle.w4_editor.specs.Settling.{AreLinked}
use Rattle.w4_editor.proofs.showing.are_linked_up_to.Given as goal

abbrev pub invariant-loop-i : goal.invariant-loop-i
invariant-loop-i l = AreLinked l.i l.kept
