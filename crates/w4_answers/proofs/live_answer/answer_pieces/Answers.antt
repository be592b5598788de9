use Rattle.std.specs.Prelude.{codes}
use Rattle.w4_defs.specs.Live.{framed}
use Rattle.w4_defs.specs.ScriptAnswers.{refused_line}
use Rattle.w4_answers.proofs.LiveAnswerLaws.{nothing_gives, own_gives, own_order, piece_gives, query_gives}
use Rattle.w4_answers.proofs.LiveAnswerLaws.{script_gives}
use Rattle.w4_answers.proofs.live_answer.answer_pieces.Goals as goal

pub returns-in-Nothing-clause-gives : goal.returns-in-Nothing-clause-gives
returns-in-Nothing-clause-gives g c = λ o s sits.
    rw c.in-Nothing.is
    (nothing_gives (g.H.House.world c.args.house.now) o s c.args.desk.now.counted.editor c.args.search.now
    sits)

pub returns-in-NoOrder-clause-gives : goal.returns-in-NoOrder-clause-gives
returns-in-NoOrder-clause-gives g c = λ o s sits.
    rw c.in-NoOrder.is
    (piece_gives c.write.result (g.H.House.world c.args.house.now) (g.H.House.world c.write.new.house) o s
    c.args.desk.now.counted.editor c.args.search.now (framed (refused_line (codes "no order"))) sits
    c.write.ensures.out)

pub returns-in-Script-clause-gives : goal.returns-in-Script-clause-gives
returns-in-Script-clause-gives g c = λ o s sits.
    rw (c.in-Order.is, c.in-Script.is)
    (script_gives c.answer.result (g.H.House.world c.args.house.now) (g.H.House.world c.answer.new.house) o s
    c.args.desk.now.counted.editor c.answer.new.desk.counted.editor c.args.search.now c.in-Script.order sits
    c.answer.ensures.answered)

pub returns-in-Query-clause-gives : goal.returns-in-Query-clause-gives
returns-in-Query-clause-gives g c = λ o s sits.
    rw (c.in-Order.is, c.in-Query.is)
    (query_gives c.answer_line.result (g.H.House.world c.args.house.now)
    (g.H.House.world c.answer_line.new.house) o s c.args.desk.now.counted.editor
    c.answer_line.new.counted.editor
    c.args.search.now c.answer_line.new.search c.in-Query.ask sits c.answer_line.ensures.told)

pub answer_own-requires : goal.answer_own-requires
answer_own-requires g c =
    own_order c.in-Order.live c.in_default.not-Script c.in_default.not-Query
    (rw c.in-Order.is at c.requires.other)

pub returns-in_default-clause-gives : goal.returns-in_default-clause-gives
returns-in_default-clause-gives g c = λ o s sits.
    rw c.in-Order.is
    (own_gives c.answer_own.result (g.H.House.world c.args.house.now) (g.H.House.world c.answer_own.new.house)
    o s c.args.desk.now.counted.editor c.answer_own.new.desk.counted.editor c.args.search.now
    c.in-Order.live sits (c.answer_own.ensures.out s sits.session) (c.answer_own.ensures.session s)
    c.answer_own.ensures.shows c.answer_own.ensures.recording)
