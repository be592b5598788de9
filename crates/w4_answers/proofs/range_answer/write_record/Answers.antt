use Rattle.w4_answers.specs.Writing.{Written}
use Rattle.w4_answers.specs.Desk.{text_by}
use Rattle.w4_answers.specs.RecordText.{text_of_place}
use Rattle.w4_answers.proofs.WritingLaws.{there_is}
use Rattle.w4_answers.proofs.RangeAnswerLaws.{run_at, text_formed}
use Rattle.w4_answers.proofs.ScriptAnswerLaws.{on_ok}
use Rattle.w4_answers.proofs.range_answer.write_record.Goals as goal

pub returns-clause-out : goal.returns-clause-out
returns-clause-out g c =
    let editor = c.args.desk.now.counted.editor in
    let wanted = text_of_place c.args.wanted in
    let text = c.in_ok-text.text.items in
    there_is
    (λ text.
    Written (g.H.House.world c.args.house.now) (g.H.House.world c.write.new.house) c.write.result text)
    (text_by g.S.Shape.form editor wanted c.args.place) (g.S.Shape.form text)
    (text_formed g.S.Shape.form wanted c.args.place (run_at editor c.args.place) text
    c.in_ok-text.ensures.text)
    (rw (← c.as_slice.ensures.value) c.write.ensures.out)

pub returns-clause-shows : goal.returns-clause-shows
returns-clause-shows g c = on_ok c.write.result c.in_ok-text.ensures.shows

pub returns-clause-made : goal.returns-clause-made
returns-clause-made g c = on_ok c.write.result c.in_ok-text.ensures.made

pub returns-clause-steps : goal.returns-clause-steps
returns-clause-steps g c = on_ok c.write.result c.in_ok-text.ensures.steps
