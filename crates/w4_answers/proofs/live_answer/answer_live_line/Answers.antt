use Rattle.std.proofs.Common.{sym, ◌∙◌}
use Rattle.std.proofs.lemmas.Result.{err_from_is_err_and}
use Rattle.w4_script.specs.Live.{asked_view}
use Rattle.w4_answers.proofs.LiveAnswerLaws.{asks_save_is, pieces_line, pieces_stopped, save_line}
use Rattle.w4_answers.proofs.LiveAnswerLaws.{serving_then, serving_writing}
use Rattle.w4_answers.proofs.live_answer.answer_live_line.Goals as goal

pub returns-then-is_save-clause-answers : goal.returns-then-is_save-clause-answers
returns-then-is_save-clause-answers g c = λ o s meant named sits.
    save_line c.answer_save.result (g.H.House.world c.args.house.now)
    (g.H.House.world c.answer_save.new.house)
    o s c.args.line.now c.args.desk.now.counted.editor c.args.search.now
    (sym c.read_live_line-asked.ensures.asked
    ∙ asks_save_is (asked_view c.read_live_line-asked.result) (sym c.is_save.ensures ∙ c.if-is_save.true))
    sits
    (c.answer_save.ensures.saves o s named sits.recording)

pub returns-clause-answers : goal.returns-clause-answers
returns-clause-answers g c = λ o s meant named sits.
    let gives = c.in_ok-answer_pieces.ensures.gives o s sits in
    pieces_line o s c.args.line.now (asked_view c.read_live_line-asked.result)
    c.read_live_line-asked.ensures.asked (sym c.is_save.ensures ∙ c.if-is_save.false) c.write_bytes.result
    (g.H.House.world c.args.house.now) (g.H.House.world c.answer_pieces.new.house)
    (g.H.House.world c.write_bytes.new.house) c.answer_pieces.new.desk.counted.editor
    c.answer_pieces.new.search meant
    gives.0 gives.1 c.in_ok-answer_pieces.ensures.rest c.write_bytes.ensures.rest c.write_bytes.ensures.out

pub returns-in_err-answer_pieces-clause-answers : goal.returns-in_err-answer_pieces-clause-answers
returns-in_err-answer_pieces-clause-answers g c = λ o s meant named sits.
    let p = err_from_is_err_and c.from_residual.result c.from_residual.ensures.1 in
    rw (p.1, p.2)
    (pieces_stopped o s c.args.line.now (asked_view c.read_live_line-asked.result)
    c.read_live_line-asked.ensures.asked (sym c.is_save.ensures ∙ c.if-is_save.false)
    c.in_err-answer_pieces.field-0.0 (g.H.House.world c.args.house.now)
    (g.H.House.world c.answer_pieces.new.house) c.answer_pieces.new.desk.counted.editor meant
    (c.in_err-answer_pieces.ensures.gives o s sits) c.in_err-answer_pieces.ensures.rest)

pub returns-clause-rest : goal.returns-clause-rest
returns-clause-rest g c =
    serving_then (g.H.House.world c.args.house.now) (g.H.House.world c.answer_pieces.new.house)
    (g.H.House.world c.write_bytes.new.house)
    (serving_writing (g.H.House.world c.args.house.now) (g.H.House.world c.answer_pieces.new.house)
    c.in_ok-answer_pieces.ensures.rest)
    (serving_writing (g.H.House.world c.answer_pieces.new.house) (g.H.House.world c.write_bytes.new.house)
    c.write_bytes.ensures.rest)

pub returns-in_err-answer_pieces-clause-rest : goal.returns-in_err-answer_pieces-clause-rest
returns-in_err-answer_pieces-clause-rest g c =
    serving_writing (g.H.House.world c.args.house.now) (g.H.House.world c.answer_pieces.new.house)
    c.in_err-answer_pieces.ensures.rest
