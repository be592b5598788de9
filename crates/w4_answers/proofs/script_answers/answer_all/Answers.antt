use Rattle.std.proofs.Common.{get_or, refl}
use Rattle.std.proofs.lemmas.Result.{err_from_is_err_and}
use Rattle.w4_editor.specs.Editor.{editing_setup, place_session}
use Rattle.w4_house.proofs.WorldLaws.{writing_none, writing_then}
use Rattle.w4_defs.specs.PlaceTexts.{as_it_stands}
use Rattle.w4_defs.specs.ScriptAnswers.{answer, answers}
use Rattle.w4_defs.specs.Endings.{manner_of}
use Rattle.w4_answers.proofs.ScriptAnswerLaws.{past_end, answered_at_first, stopped_at_first}
use Rattle.w4_answers.proofs.ScriptAnswerLaws.{answers-out-step, answers-session-step, answers-stop}
use Rattle.w4_answers.proofs.ScriptAnswerLaws.{answers-done}
use Rattle.w4_answers.proofs.WritingLaws.{there_begins}
use Rattle.w4_editor.proofs.EditorPlaceLaws.{rest_none, rest_then}
use Rattle.w4_answers.proofs.script_answers.answer_all.Goals as goal

pub loop-order-init : goal.loop-order-init
loop-order-init g c =
    let first = c.args.desk.now.counted.editor in
    let begin = g.H.House.world c.args.house.now in (
      there_begins begin
          (answers (editing_setup first) first.disk (place_session first) c.args.orders.now).out,
      refl,
      rest_none first,
      writing_none begin,
    )

pub loop-order-preserved : goal.loop-order-preserved
loop-order-preserved g c =
    let first = c.args.desk.now.counted.editor in
    let now = c.loop-order.desk.counted.editor in
    let next = c.answer.new.desk.counted.editor in
    let setup = editing_setup first in
    let whole = answers setup first.disk (place_session first) c.args.orders.now in
    let begin = g.H.House.world c.args.house.now in
    let before = g.H.House.world c.loop-order.house in
    let after = g.H.House.world c.answer.new.house in
    let rest = c.loop-order.invariant.2 in
    let order = get_or c.args.orders.now c.loop-order.order-index past_end in
    let one = answered_at_first before after first now next order rest c.in_ok-answer.ensures.answered in (
      answers-out-step begin before after (answer as_it_stands setup first.disk) (place_session now)
          (place_session next) c.args.orders.now c.loop-order.order-index past_end whole.out
          c.loop-order-test.true one.session one.out c.loop-order.invariant.0,
      answers-session-step (answer as_it_stands setup first.disk) (place_session now) (place_session next)
          c.args.orders.now c.loop-order.order-index past_end whole.session c.loop-order-test.true
          one.session c.loop-order.invariant.1,
      rest_then first now next rest one.rest,
      writing_then begin before after c.loop-order.invariant.3 c.in_ok-answer.ensures.rest,
    )

pub returns-clause-answered : goal.returns-clause-answered
returns-clause-answered g c =
    let first = c.args.desk.now.counted.editor in
    let setup = editing_setup first in
    answers-done (g.H.House.world c.args.house.now) (g.H.House.world c.loop-order.house) first
    c.loop-order.desk.counted.editor setup first.disk c.args.orders.now c.loop-order.order-index
    (answers setup first.disk (place_session first) c.args.orders.now) c.loop-order-test.false
    c.loop-order.invariant.0 c.loop-order.invariant.1 c.loop-order.invariant.2

pub returns-in_err-answer-clause-answered : goal.returns-in_err-answer-clause-answered
returns-in_err-answer-clause-answered g c =
    let p = err_from_is_err_and c.from_residual.result c.from_residual.ensures.1 in
    let first = c.args.desk.now.counted.editor in
    let now = c.loop-order.desk.counted.editor in
    let setup = editing_setup first in
    let before = g.H.House.world c.loop-order.house in
    let after = g.H.House.world c.answer.new.house in
    let why = manner_of c.in_err-answer.field-0.0 in
    let order = get_or c.args.orders.now c.loop-order.order-index past_end in
    rw (p.1, p.2)
    (answers-stop (g.H.House.world c.args.house.now) before after why (answer as_it_stands setup first.disk)
    (place_session now) c.args.orders.now c.loop-order.order-index past_end
    (answers setup first.disk (place_session first) c.args.orders.now).out c.loop-order-test.true
    c.loop-order.invariant.3.later
    (stopped_at_first before after why first now order c.loop-order.invariant.2
    c.in_err-answer.ensures.answered.0)
    c.loop-order.invariant.0)
