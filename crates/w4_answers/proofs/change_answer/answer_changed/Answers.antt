use Rattle.w4_answers.proofs.ChangeAnswerLaws.{carried, refused_on}
use Rattle.w4_answers.proofs.DeskLaws.{refused_within}
use Rattle.w4_answers.proofs.change_answer.answer_changed.Goals as goal

pub returns-in-Ok-clause-answered : goal.returns-in-Ok-clause-answered
returns-in-Ok-clause-answered g c = λ old new wanted changed kept.
    let is = rw c.in-Ok.is at changed in
    carried g.S.Shape.form (g.H.House.world c.args.house.now) old new wanted is.0 is.1

pub returns-in-Err-clause-answered : goal.returns-in-Err-clause-answered
returns-in-Err-clause-answered g c = λ old new wanted changed kept.
    refused_on g.S.Shape.form c.refuse.result (g.H.House.world c.args.house.now)
    (g.H.House.world c.refuse.new.house) old new wanted c.in-Err.refusal (rw c.in-Err.is at changed)
    (rw c.in-Err.is at kept) c.refuse.ensures.cause c.refuse.ensures.out

pub returns-in-Ok-clause-frames_run : goal.returns-in-Ok-clause-frames_run
returns-in-Ok-clause-frames_run g c = λ order before after old new within idle. rw c.in-Ok.is at within

pub returns-in-Err-clause-frames_run : goal.returns-in-Err-clause-frames_run
returns-in-Err-clause-frames_run g c = λ order before after old new within idle.
    refused_within c.refuse.result (g.H.House.world c.args.house.now) (g.H.House.world c.refuse.new.house)
    c.in-Err.refusal order before after old new c.refuse.ensures.cause (rw c.in-Err.is at idle)
