use Rattle.std.proofs.Common.{Some}
use Rattle.w4_defs.specs.ScriptAnswers.{no_frame}
use Rattle.w4_answers.specs.RamAnswers.{editor_pages}
use Rattle.w4_defs.specs.QueryAnswers.{answer_start}
use Rattle.w4_answers.proofs.RamAnswerLaws.{refused_on_text, start_past, start_there, line_answered_alone}
use Rattle.w4_answers.proofs.DeskSessionLaws.{only_shows, shows_same}
use Rattle.w4_editor.proofs.EditorPlaceLaws.{same_recording}
use Rattle.w4_answers.proofs.ram_answers.answer_start.Goals as goal

pub returns-in-Ok-clause-told : goal.returns-in-Ok-clause-told
returns-in-Ok-clause-told g c =
    let old = c.args.counted.now.editor in
    line_answered_alone (g.H.House.world c.args.house.now) old c.start.new.editor (Some c.in-Ok.begun)
    (answer_start g.S.Shape.form (editor_pages old) c.args.search.now c.args.width c.args.p)
    (start_there g.S.Shape.form old c.args.search.now c.args.width c.args.p c.in-Ok.begun
    c.in-Ok.ensures.accepted
    c.in-Ok.ensures.begun)
    (only_shows old c.start.new.editor c.in-Ok.ensures.shown.recording)

pub returns-in-Err-clause-told : goal.returns-in-Err-clause-told
returns-in-Err-clause-told g c =
    let old = c.args.counted.now.editor in
    refused_on_text c.refuse_place.result (g.H.House.world c.args.house.now)
    (g.H.House.world c.refuse_place.new.house) old c.start.new.editor c.args.search.now
    (g.S.Shape.form no_frame)
    (answer_start g.S.Shape.form (editor_pages old) c.args.search.now c.args.width c.args.p)
    c.refuse_place.ensures.cause
    (λ other. start_past g.S.Shape.form old c.args.search.now c.args.width c.args.p c.in-Err.refusal
    c.in-Err.ensures.refused
    other)
    (λ other. shows_same old c.start.new.editor (c.in-Err.ensures.unchanged other))
    (same_recording old c.start.new.editor c.in-Err.ensures.err)
    c.refuse_place.ensures.out
