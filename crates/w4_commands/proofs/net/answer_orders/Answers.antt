use Rattle.std.proofs.Common.{ap, drop, get_or, refl}
use Rattle.std.proofs.lemmas.Result.{err_from_is_err_and}
use Rattle.w4_editor.specs.Editor.{editing_setup}
use Rattle.w4_house.proofs.WorldLaws.{writing_none, writing_then}
use Rattle.w4_answers.proofs.WritingLaws.{out_none, there_begins, there_nothing}
use Rattle.w4_defs.specs.Answers.{Answered}
use Rattle.w4_defs.specs.Endings.{manner_of}
use Rattle.w4_defs.specs.LogAnswers.{NetSession, net_answer, net_answers}
use Rattle.w4_answers.specs.NetAnswers.{net_session}
use Rattle.w4_answers.proofs.ScriptAnswerLaws.{answers-out-step, answers-stop, answers-end}
use Rattle.w4_answers.proofs.NetAnswerLaws.{heard_at_first, net_stopped_at_first, past_log}
use Rattle.w4_editor.proofs.EditorPlaceLaws.{rest_none, rest_then}
use Rattle.w4_commands.proofs.net.answer_orders.Goals as goal

pub loop-order-init : goal.loop-order-init
loop-order-init g c =
    let world = g.H.House.world c.args.house.now in
    let first = c.args.replica.now in (
      there_begins world (net_answers (editing_setup first.editor) (net_session first) c.args.orders.now).out,
      rest_none first.editor,
      writing_none world,
    )

pub loop-order-preserved : goal.loop-order-preserved
loop-order-preserved g c =
    let first = c.args.replica.now in
    let now = c.loop-order.replica in
    let next = c.answer_order.new.replica in
    let setup = editing_setup first.editor in
    let begin = g.H.House.world c.args.house.now in
    let before = g.H.House.world c.loop-order.house in
    let after = g.H.House.world c.answer_order.new.house in
    let rest = c.loop-order.invariant.1 in
    let order = get_or c.args.orders.now c.loop-order.order-index past_log in
    let one = heard_at_first before after first now next order rest c.in_ok-answer_order.ensures.heard in (
      answers-out-step begin before after (net_answer setup) (net_session now) (net_session next)
          c.args.orders.now c.loop-order.order-index past_log
          (net_answers setup (net_session first) c.args.orders.now).out c.loop-order-test.true one.session
          one.out c.loop-order.invariant.0,
      rest_then first.editor now.editor next.editor rest one.rest,
      writing_then begin before after c.loop-order.invariant.2 c.in_ok-answer_order.ensures.rest,
    )

pub returns-clause-out : goal.returns-clause-out
returns-clause-out g c =
    let first = c.args.replica.now in
    let now = c.loop-order.replica in
    let setup = editing_setup first.editor in
    let left = drop c.loop-order.order-index c.args.orders.now in
    there_nothing (g.H.House.world c.args.house.now) (g.H.House.world c.loop-order.house)
    (net_answers setup (net_session now) left).out
    (net_answers setup (net_session first) c.args.orders.now).out
    (ap (λ (a : Answered NetSession). a.out)
    (answers-end (net_answer setup) (net_session now) c.args.orders.now c.loop-order.order-index
    c.loop-order-test.false))
    c.loop-order.invariant.0

pub returns-in_err-image-clause-out : goal.returns-in_err-image-clause-out
returns-in_err-image-clause-out g c =
    let p = err_from_is_err_and c.from_residual.result c.from_residual.ensures.1 in
    let world = g.H.House.world c.args.house.now in
    rw (p.1, p.2) (λ text is. out_none world.events world.events text refl)

pub returns-in_err-answer_order-clause-out : goal.returns-in_err-answer_order-clause-out
returns-in_err-answer_order-clause-out g c =
    let p =
    err_from_is_err_and c.from_residual-in_err-answer_order.result
    c.from_residual-in_err-answer_order.ensures.1 in
    let first = c.args.replica.now in
    let now = c.loop-order.replica in
    let setup = editing_setup first.editor in
    let before = g.H.House.world c.loop-order.house in
    let after = g.H.House.world c.answer_order.new.house in
    let why = manner_of c.in_err-answer_order.field-0.0 in
    let order = get_or c.args.orders.now c.loop-order.order-index past_log in
    rw (p.1, p.2)
    (answers-stop (g.H.House.world c.args.house.now) before after why (net_answer setup) (net_session now)
    c.args.orders.now c.loop-order.order-index past_log
    (net_answers setup (net_session first) c.args.orders.now).out c.loop-order-test.true
    c.loop-order.invariant.2.later
    (net_stopped_at_first before after why first now order c.loop-order.invariant.1
    c.in_err-answer_order.ensures.heard)
    c.loop-order.invariant.0)
