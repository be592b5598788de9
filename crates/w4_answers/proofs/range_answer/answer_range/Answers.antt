use Rattle.w4_editor.specs.Editor.{editing_setup, place_session}
use Rattle.w4_defs.specs.ScriptAnswers.{if_place, no_frame, range_text}
use Rattle.w4_answers.proofs.DeskSessionLaws.{refused_place, answered_on}
use Rattle.w4_answers.proofs.RangeAnswerLaws.{if_place-past, if_place-within}
use Rattle.w4_answers.proofs.range_answer.answer_range.Goals as goal

pub returns-then-b-last_place-clause-answered : goal.returns-then-b-last_place-clause-answered
returns-then-b-last_place-clause-answered g c =
    let old = c.args.desk.now.counted.editor in
    let s = place_session old in
    let text = range_text g.S.Shape.form (editing_setup old) old.disk s c.args.wanted c.args.a c.args.b in
    refused_place c.refuse.result (g.H.House.world c.args.house.now) (g.H.House.world c.refuse.new.house) old
    (g.S.Shape.form no_frame) (if_place g.S.Shape.form s c.args.b text)
    (if_place-past g.S.Shape.form s c.args.b text (rw (← c.last_place.ensures.last) c.if-b-last_place.true))
    c.refuse.ensures.out

pub returns-clause-answered : goal.returns-clause-answered
returns-clause-answered g c =
    let old = c.args.desk.now.counted.editor in
    let s = place_session old in
    let text = range_text g.S.Shape.form (editing_setup old) old.disk s c.args.wanted c.args.a c.args.b in
    answered_on c.write_all.result (g.H.House.world c.args.house.now) (g.H.House.world c.write_all.new.house)
    old
    c.write_all.new.desk.counted.editor text (if_place g.S.Shape.form s c.args.b text)
    (if_place-within g.S.Shape.form s c.args.b text
    (rw (← c.last_place.ensures.last) c.if-b-last_place.false))
    c.write_all.ensures.shows c.write_all.ensures.recording c.write_all.ensures.out
