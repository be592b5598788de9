use Rattle.w4_answers.proofs.RamAnswerLaws.{told_by_request, told_by_watch}
use Rattle.w4_commands.proofs.ram.answer_request.Goals as goal

pub returns-in-Watch-clause-told : goal.returns-in-Watch-clause-told
returns-in-Watch-clause-told g c =
    rw c.in-Watch.is
    (told_by_watch c.answer_held.result (g.H.House.world c.args.house.now)
    (g.H.House.world c.answer_held.new.house) c.args.desk.now.counted.editor c.answer_held.new.counted.editor
    c.args.desk.now.search
    c.in-Watch.address c.in-Watch.width c.in-Watch.a c.in-Watch.b c.answer_held.ensures.out
    c.answer_held.ensures.shows)

pub returns-in_default-clause-told : goal.returns-in_default-clause-told
returns-in_default-clause-told g c =
    told_by_request c.answer_line.result (g.H.House.world c.args.house.now)
    (g.H.House.world c.answer_line.new.house) c.args.desk.now.counted.editor c.answer_line.new.counted.editor
    c.args.desk.now.search
    c.answer_line.new.search c.args.ask c.answer_line.ensures.told
