use Rattle.std.proofs.Common.{drop}
use Rattle.std.specs.Prelude.{codes}
use Rattle.w4_defs.specs.InputsText.{input_lines}
use Rattle.w4_defs.specs.World.{LeavesWriting}
use Rattle.w4_answers.proofs.WritingLaws.{Owes}
use Rattle.w4_commands.proofs.recordings.write_lines.Given as goal

abbrev pub invariant-loop-number : goal.invariant-loop-number
invariant-loop-number g l =
    Owes (g.H.House.world l.fn.house) (g.H.House.world l.house)
    (input_lines (codes "insert") l.number (drop l.number l.inputs)) (input_lines (codes "insert") 0 l.inputs)
    × LeavesWriting (g.H.House.world l.fn.house) (g.H.House.world l.house)
