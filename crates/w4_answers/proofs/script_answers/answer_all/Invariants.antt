use Rattle.std.proofs.Common.{◌≡◌, drop}
use Rattle.w4_editor.specs.Editor.{editing_setup, KeepsRest, place_session}
use Rattle.w4_defs.specs.World.{LeavesWriting}
use Rattle.w4_defs.specs.ScriptAnswers.{answers}
use Rattle.w4_answers.proofs.WritingLaws.{OwesThere}
use Rattle.w4_answers.proofs.script_answers.answer_all.Given as goal

-- what was written so far and the answers that are left make the whole, and so do their sessions
abbrev pub invariant-loop-order : goal.invariant-loop-order
invariant-loop-order g l =
    let first = l.fn.desk.counted.editor in
    let owed = answers (editing_setup first) first.disk (place_session l.desk.counted.editor)
    (drop l.order-index l.orders) in
    let whole = answers (editing_setup first) first.disk (place_session first) l.orders in
    OwesThere (g.H.House.world l.fn.house) (g.H.House.world l.house) owed.out whole.out
    × (owed.session ≡ whole.session)
    × KeepsRest first l.desk.counted.editor
    × LeavesWriting (g.H.House.world l.fn.house) (g.H.House.world l.house)
