use Rattle.std.proofs.Common.{Some, refl}
use Rattle.w4_defs.specs.Answers.{answer_text}
use Rattle.w4_answers.specs.RamAnswers.{editor_pages}
use Rattle.w4_defs.specs.QueryAnswers.{list_text, watch_text}
use Rattle.w4_answers.specs.Writing.{Written}
use Rattle.w4_answers.proofs.ScriptAnswerLaws.{on_ok}
use Rattle.w4_answers.proofs.WritingLaws.{there_is}
use Rattle.w4_answers.proofs.RamAnswerLaws.{line_answered_on}
use Rattle.w4_answers.proofs.DeskSessionLaws.{shows_none}
use Rattle.w4_answers.proofs.ram_answers.answer_line.Goals as goal

pub returns-in-Watch-clause-told : goal.returns-in-Watch-clause-told
returns-in-Watch-clause-told g c =
    let old = c.args.counted.now.editor in
    let search = c.args.search.now in
    let text = watch_text g.S.Shape.form (editor_pages old) c.in-Watch.address c.in-Watch.width c.in-Watch.a
    c.in-Watch.b in
    rw c.in-Watch.is
    (line_answered_on c.answer_watch.result (g.H.House.world c.args.house.now)
    (g.H.House.world c.answer_watch.new.house) old c.answer_watch.new.counted.editor search text
    (answer_text search text) refl c.answer_watch.ensures.out
    c.answer_watch.ensures.shows c.answer_watch.ensures.recording)

pub returns-in-List-clause-told : goal.returns-in-List-clause-told
returns-in-List-clause-told g c =
    let old = c.args.counted.now.editor in
    let search = c.args.search.now in
    let before = g.H.House.world c.args.house.now in
    let after = g.H.House.world c.answer_list.new.house in
    rw c.in-List.is
    (line_answered_on c.answer_list.result before after old old search
    (Some (g.S.Shape.form (list_text search)))
    (answer_text search (Some (g.S.Shape.form (list_text search)))) refl
    (there_is (λ text. Written before after c.answer_list.result text)
    (Some (g.S.Shape.form (list_text search)))
    (g.S.Shape.form (list_text search))
    refl c.answer_list.ensures.out)
    (on_ok c.answer_list.result (shows_none old)) refl)
