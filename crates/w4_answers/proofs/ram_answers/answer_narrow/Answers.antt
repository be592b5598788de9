use Rattle.std.proofs.Common.{Some, refl}
use Rattle.w4_defs.specs.ScriptAnswers.{no_frame}
use Rattle.w4_answers.specs.RamAnswers.{editor_pages}
use Rattle.w4_defs.specs.QueryAnswers.{answer_narrow, no_search}
use Rattle.w4_answers.specs.Writing.{Written}
use Rattle.w4_answers.proofs.ScriptAnswerLaws.{on_ok}
use Rattle.w4_answers.proofs.WritingLaws.{there_is}
use Rattle.w4_answers.proofs.RamAnswerLaws.{narrow_past, narrow_there, refused_on_text, line_answered_alone}
use Rattle.w4_answers.proofs.RamAnswerLaws.{line_answered_on}
use Rattle.w4_answers.proofs.DeskSessionLaws.{only_shows, shows_none, shows_same}
use Rattle.w4_editor.proofs.EditorPlaceLaws.{same_recording}
use Rattle.w4_answers.proofs.ram_answers.answer_narrow.Goals as goal

pub returns-in-None-clause-told : goal.returns-in-None-clause-told
returns-in-None-clause-told g c =
    let old = c.args.counted.now.editor in
    let before = g.H.House.world c.args.house.now in
    let after = g.H.House.world c.write.new.house in
    line_answered_on c.write.result before after old old c.args.search.now (Some (g.S.Shape.form no_search))
    (answer_narrow g.S.Shape.form (editor_pages old) c.args.search.now c.args.p c.args.test)
    (rw c.in-None.is refl)
    (there_is (λ text. Written before after c.write.result text) (Some (g.S.Shape.form no_search))
    (g.S.Shape.form no_search) refl
    c.write.ensures.out)
    (on_ok c.write.result (shows_none old)) refl

pub returns-in-Ok-clause-told : goal.returns-in-Ok-clause-told
returns-in-Ok-clause-told g c =
    let old = c.args.counted.now.editor in
    line_answered_alone (g.H.House.world c.args.house.now) old c.narrow.new.editor (Some c.narrow.new.self)
    (answer_narrow g.S.Shape.form (editor_pages old) c.args.search.now c.args.p c.args.test)
    (rw c.in-Some.is
    (narrow_there g.S.Shape.form old c.in-Some.standing c.args.p c.args.test c.narrow.new.self
    c.in-Ok.ensures.accepted
    c.in-Ok.ensures.narrowed))
    (only_shows old c.narrow.new.editor c.in-Ok.ensures.shown.recording)

pub returns-in-Err-clause-told : goal.returns-in-Err-clause-told
returns-in-Err-clause-told g c =
    let old = c.args.counted.now.editor in
    refused_on_text c.refuse_place.result (g.H.House.world c.args.house.now)
    (g.H.House.world c.refuse_place.new.house) old c.narrow.new.editor (Some c.narrow.new.self)
    (g.S.Shape.form no_frame)
    (answer_narrow g.S.Shape.form (editor_pages old) c.args.search.now c.args.p c.args.test)
    c.refuse_place.ensures.cause
    (λ other. rw (c.in-Some.is, c.in-Err.ensures.same_search)
    (narrow_past g.S.Shape.form old c.in-Some.standing c.args.p c.args.test c.in-Err.refusal
    c.in-Err.ensures.refused other))
    (λ other. shows_same old c.narrow.new.editor (c.in-Err.ensures.unchanged other))
    (same_recording old c.narrow.new.editor c.in-Err.ensures.err)
    c.refuse_place.ensures.out
