use Rattle.std.proofs.Common.{sym}
use Rattle.w4_defs.specs.KeptList.{state_at}
use Rattle.w4_editor.specs.Editor.{editing_setup}
use Rattle.w4_defs.specs.LogAnswers.{net_answers}
use Rattle.w4_answers.specs.NetAnswers.{net_session}
use Rattle.w4_defs.specs.ToolOutputs.{net_text}
use Rattle.w4_answers.specs.Writing.{Written}
use Rattle.w4_answers.proofs.WritingLaws.{there_as}
use Rattle.w4_answers.proofs.NetAnswerLaws.{netplay_begins, blank_as}
use Rattle.w4_commands.proofs.net.answer_log.Goals as goal

pub returns-clause-out : goal.returns-clause-out
returns-clause-out g c =
    let r = c.in_ok-replica.replica in
    let first =
    netplay_begins c.args.file.cart c.args.font c.args.file.digest c.args.budget.units
    c.new-recording.result
    (state_at r.editor.session.current.kept 0) r
    (blank_as c.new-recording.result c.args.file.digest c.args.budget.units c.new.result.items
    c.new-2.result.items c.new-recording.ensures c.new.ensures.items c.new-2.ensures.items)
    c.in_ok-replica.ensures.known
    c.in_ok-replica.ensures.frames c.in_ok-replica.ensures.editor in
    let old = g.H.House.world c.args.house.now in
    let new = g.H.House.world c.answer_orders-end.new.house in
    let orders = c.args.orders.now in
    there_as (λ text. Written old new c.answer_orders-end.result text)
    (net_answers (editing_setup r.editor) (net_session r) orders).out
    (net_text c.args.file.cart c.args.budget.units (record { font = c.args.font; orders = orders }))
    (λ i. (net_answers (sym first.0 i) (sym first.1 i) orders).out)
    c.answer_orders-end.ensures.out
