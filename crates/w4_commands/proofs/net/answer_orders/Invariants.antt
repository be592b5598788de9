use Rattle.std.proofs.Common.{drop}
use Rattle.w4_editor.specs.Editor.{editing_setup, KeepsRest}
use Rattle.w4_defs.specs.World.{LeavesWriting}
use Rattle.w4_defs.specs.LogAnswers.{net_answers}
use Rattle.w4_answers.specs.NetAnswers.{net_session}
use Rattle.w4_answers.proofs.WritingLaws.{OwesThere}
use Rattle.w4_commands.proofs.net.answer_orders.Given as goal

-- what was written so far and the answers that are left make the whole
abbrev pub invariant-loop-order : goal.invariant-loop-order
invariant-loop-order g l =
    let first = l.fn.replica in
    let setup = editing_setup first.editor in
    OwesThere (g.H.House.world l.fn.house) (g.H.House.world l.house)
    (net_answers setup (net_session l.replica) (drop l.order-index l.orders)).out
    (net_answers setup (net_session first) l.orders).out
    × KeepsRest first.editor l.replica.editor
    × LeavesWriting (g.H.House.world l.fn.house) (g.H.House.world l.house)
