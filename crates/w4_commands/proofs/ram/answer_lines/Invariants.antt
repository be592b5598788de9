use Rattle.std.proofs.Common.{drop}
use Rattle.w4_editor.specs.Editor.{editing_setup, KeepsRest}
use Rattle.w4_defs.specs.World.{LeavesWriting}
use Rattle.w4_defs.specs.ToolOutputs.{ram_answers}
use Rattle.w4_answers.specs.HeldPages.{AreHeld}
use Rattle.w4_answers.specs.RamAnswers.{query_answers, query_session}
use Rattle.w4_answers.proofs.WritingLaws.{OwesThere}
use Rattle.w4_commands.proofs.ram.answer_lines.Given as goal

-- what was written so far and the answers that are left make the whole
abbrev pub invariant-loop-i : goal.invariant-loop-i
invariant-loop-i g l =
    let first = l.fn.desk.counted.editor in
    let owed = ram_answers (editing_setup first) first.disk (query_session l.desk.counted.editor
    l.desk.search)
    (drop l.i l.lines) in
    OwesThere (g.H.House.world l.fn.house) (g.H.House.world l.house) owed.out
    (query_answers first l.fn.desk.search l.lines).out
    × KeepsRest first l.desk.counted.editor
    × AreHeld l.desk.counted.editor l.desk.held
    × LeavesWriting (g.H.House.world l.fn.house) (g.H.House.world l.house)
