use Rattle.std.proofs.Common.{ap, drop, get_or}
use Rattle.std.proofs.lemmas.Result.{err_from_is_err_and}
use Rattle.w4_house.proofs.WorldLaws.{writing_none, writing_then}
use Rattle.w4_editor.specs.Editor.{editing_setup}
use Rattle.w4_editor.proofs.EditorPlaceLaws.{rest_none, rest_then}
use Rattle.w4_defs.specs.Answers.{Answered}
use Rattle.w4_defs.specs.Endings.{manner_of}
use Rattle.w4_defs.specs.Live.{LiveSession}
use Rattle.w4_defs.specs.ToolOutputs.{line_answer, ram_answers}
use Rattle.w4_answers.specs.RamAnswers.{query_answers, query_session}
use Rattle.w4_answers.proofs.ScriptAnswerLaws.{answers-out-step, answers-stop, answers-end}
use Rattle.w4_answers.proofs.WritingLaws.{there_begins, there_nothing}
use Rattle.w4_answers.proofs.RamAnswerLaws.{past_query_line, query_answered_at_first, query_stopped_at_first}
use Rattle.w4_commands.proofs.ram.answer_lines.Goals as goal

pub loop-i-init : goal.loop-i-init
loop-i-init g c =
    let first = c.args.desk.now.counted.editor in
    let begin = g.H.House.world c.args.house.now in (
      there_begins begin (query_answers first c.args.desk.now.search c.args.lines.now).out,
      rest_none first,
      c.requires.held,
      writing_none begin,
    )

pub loop-i-preserved : goal.loop-i-preserved
loop-i-preserved g c =
    let first = c.args.desk.now.counted.editor in
    let now = c.loop-i.desk.counted.editor in
    let next = c.answer_query_line.new.desk.counted.editor in
    let setup = editing_setup first in
    let begin = g.H.House.world c.args.house.now in
    let before = g.H.House.world c.loop-i.house in
    let after = g.H.House.world c.answer_query_line.new.house in
    let rest = c.loop-i.invariant.1 in
    let line = get_or c.args.lines.now c.loop-i.i past_query_line in
    let one = query_answered_at_first before after first now next c.loop-i.desk.search
    c.answer_query_line.new.desk.search line rest c.in_ok-answer_query_line.ensures.told in (
      answers-out-step begin before after (line_answer setup first.disk)
          (query_session now c.loop-i.desk.search)
          (query_session next c.answer_query_line.new.desk.search) c.args.lines.now c.loop-i.i past_query_line
          (query_answers first c.args.desk.now.search c.args.lines.now).out c.loop-i-test.true one.session
          one.out
          c.loop-i.invariant.0,
      rest_then first now next rest one.rest,
      c.in_ok-answer_query_line.ensures.held,
      writing_then begin before after c.loop-i.invariant.3 c.in_ok-answer_query_line.ensures.rest,
    )

pub returns-clause-out : goal.returns-clause-out
returns-clause-out g c =
    let first = c.args.desk.now.counted.editor in
    let session = query_session c.loop-i.desk.counted.editor c.loop-i.desk.search in
    there_nothing (g.H.House.world c.args.house.now) (g.H.House.world c.loop-i.house)
    (ram_answers (editing_setup first) first.disk session (drop c.loop-i.i c.args.lines.now)).out
    (query_answers first c.args.desk.now.search c.args.lines.now).out
    (ap (λ (a : Answered LiveSession). a.out)
    (answers-end (line_answer (editing_setup first) first.disk) session c.args.lines.now c.loop-i.i
    c.loop-i-test.false))
    c.loop-i.invariant.0

pub returns-in_err-answer_query_line-clause-out : goal.returns-in_err-answer_query_line-clause-out
returns-in_err-answer_query_line-clause-out g c =
    let p = err_from_is_err_and c.from_residual.result c.from_residual.ensures.1 in
    let first = c.args.desk.now.counted.editor in
    let now = c.loop-i.desk.counted.editor in
    let before = g.H.House.world c.loop-i.house in
    let after = g.H.House.world c.answer_query_line.new.house in
    let why = manner_of c.in_err-answer_query_line.field-0.0 in
    let line = get_or c.args.lines.now c.loop-i.i past_query_line in
    rw (p.1, p.2)
    (answers-stop (g.H.House.world c.args.house.now) before after why
    (line_answer (editing_setup first) first.disk) (query_session now c.loop-i.desk.search) c.args.lines.now
    c.loop-i.i past_query_line (query_answers first c.args.desk.now.search c.args.lines.now).out
    c.loop-i-test.true
    c.loop-i.invariant.3.later
    (query_stopped_at_first before after why first now c.loop-i.desk.search line c.loop-i.invariant.1
    c.in_err-answer_query_line.ensures.told)
    c.loop-i.invariant.0)
