use Rattle.std.proofs.Common.{ap, refl, sym, ◌∙◌, ◌∷◌, List, Some, ℕ}
use Rattle.std.proofs.lemmas.Result.{err_from_is_err_and}
use Rattle.std.specs.Prelude.{codes}
use Rattle.w4_defs.specs.FrameTexts.{numbered}
use Rattle.w4_answers.specs.RamAnswers.{editor_pages}
use Rattle.w4_defs.specs.QueryAnswers.{outside, watch_text}
use Rattle.w4_defs.specs.ScriptAnswers.{no_frame}
use Rattle.w4_answers.specs.Writing.{Written}
use Rattle.w4_answers.proofs.ScriptAnswerLaws.{on_ok}
use Rattle.w4_answers.proofs.WritingLaws.{out_none, there_is}
use Rattle.w4_answers.proofs.RamAnswerLaws.{watch_answered, watch_past, watch_outside}
use Rattle.w4_answers.proofs.DeskSessionLaws.{only_shows}
use Rattle.w4_editor.proofs.EditorPlaceLaws.{same_recording}
use Rattle.w4_answers.proofs.ram_answers.answer_watch.Goals as goal

pub returns-in_ok-line-in-Ok-clause-out : goal.returns-in_ok-line-in-Ok-clause-out
returns-in_ok-line-in-Ok-clause-out g c =
    let old = c.args.counted.now.editor in
    let before = g.H.House.world c.args.house.now in
    let after = g.H.House.world c.write.new.house in
    there_is (λ text. Written before after c.write.result text)
    (watch_text g.S.Shape.form (editor_pages old) c.args.watched.address c.args.watched.width
    c.args.watched.a c.args.watched.b)
    (g.S.Shape.form c.as_slice-in-Ok.result.now)
    (watch_answered g.S.Shape.form old c.args.watched.address c.args.watched.width c.args.watched.a
    c.args.watched.b c.in-Ok.values.items
    c.in-Ok.ensures.accepted c.in-Ok.ensures.values
    ∙ ap (λ (line : List ℕ). Some (g.S.Shape.form line))
    (ap (λ (values : List ℕ). numbered (codes "watch") (c.args.watched.address ∷ values))
    (sym c.as_slice.ensures.value)
    ∙ sym c.in_ok-line-in-Ok.ensures ∙ sym c.as_slice-in-Ok.ensures.value))
    c.write.ensures.out

pub returns-in_ok-line-in-Ok-clause-shows : goal.returns-in_ok-line-in-Ok-clause-shows
returns-in_ok-line-in-Ok-clause-shows g c =
    on_ok c.write.result (only_shows c.args.counted.now.editor c.watch.new.editor
    c.in-Ok.ensures.shown.recording)

pub returns-in-Err-NoFrame-clause-out : goal.returns-in-Err-NoFrame-clause-out
returns-in-Err-NoFrame-clause-out g c =
    let old = c.args.counted.now.editor in
    let before = g.H.House.world c.args.house.now in
    let after = g.H.House.world c.write-in-Err-NoFrame.new.house in
    there_is (λ text. Written before after c.write-in-Err-NoFrame.result text)
    (watch_text g.S.Shape.form (editor_pages old) c.args.watched.address c.args.watched.width
    c.args.watched.a c.args.watched.b) (g.S.Shape.form no_frame)
    (watch_past g.S.Shape.form old c.args.watched.address c.args.watched.width c.args.watched.a
    c.args.watched.b c.in-Err-NoFrame.field-0
    c.in-Err-NoFrame.field-0-is c.in-Err-NoFrame.ensures.refused)
    c.write-in-Err-NoFrame.ensures.out

pub returns-in-Err-Outside-clause-out : goal.returns-in-Err-Outside-clause-out
returns-in-Err-Outside-clause-out g c =
    let old = c.args.counted.now.editor in
    let before = g.H.House.world c.args.house.now in
    let after = g.H.House.world c.write-in-Err-Outside.new.house in
    there_is (λ text. Written before after c.write-in-Err-Outside.result text)
    (watch_text g.S.Shape.form (editor_pages old) c.args.watched.address c.args.watched.width
    c.args.watched.a c.args.watched.b) (g.S.Shape.form outside)
    (watch_outside g.S.Shape.form old c.args.watched.address c.args.watched.width c.args.watched.a
    c.args.watched.b c.in-Err-Outside.field-0
    c.in-Err-Outside.field-0-is c.in-Err-Outside.ensures.refused)
    c.write-in-Err-Outside.ensures.out

pub returns-in_ok-line-in-Ok-clause-recording : goal.returns-in_ok-line-in-Ok-clause-recording
returns-in_ok-line-in-Ok-clause-recording g c =
    same_recording c.args.counted.now.editor c.watch.new.editor c.in-Ok.ensures.shown.recording

pub returns-in_err-line-in-Ok-clause-recording : goal.returns-in_err-line-in-Ok-clause-recording
returns-in_err-line-in-Ok-clause-recording g c =
    same_recording c.args.counted.now.editor c.watch.new.editor c.in-Ok.ensures.shown.recording

pub returns-in-Err-NoFrame-clause-recording : goal.returns-in-Err-NoFrame-clause-recording
returns-in-Err-NoFrame-clause-recording g c =
    same_recording c.args.counted.now.editor c.watch.new.editor c.in-Err-NoFrame.ensures.err

pub returns-in-Err-Outside-clause-recording : goal.returns-in-Err-Outside-clause-recording
returns-in-Err-Outside-clause-recording g c =
    same_recording c.args.counted.now.editor c.watch.new.editor c.in-Err-Outside.ensures.err

pub returns-in-Err-OutOfMemory-clause-recording : goal.returns-in-Err-OutOfMemory-clause-recording
returns-in-Err-OutOfMemory-clause-recording g c =
    same_recording c.args.counted.now.editor c.watch.new.editor c.in-Err-OutOfMemory.ensures.err

pub returns-in_err-line-in-Ok-clause-out : goal.returns-in_err-line-in-Ok-clause-out
returns-in_err-line-in-Ok-clause-out g c =
    let p = err_from_is_err_and c.from_residual.result c.from_residual.ensures.1 in
    let world = g.H.House.world c.args.house.now in
    rw (p.1, p.2) (λ out is. out_none world.events world.events out refl)
