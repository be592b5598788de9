use Rattle.w4_answers.proofs.ScriptAnswerLaws.{on_ok_map}
use Rattle.w4_answers.proofs.DeskSessionLaws.{only_shows}
use Rattle.w4_answers.proofs.FilmAnswerLaws.{settled_recording}
use Rattle.w4_answers.proofs.film_answer.settle_by_workers.Goals as goal

pub returns-clause-shows : goal.returns-clause-shows
returns-clause-shows g c =
    on_ok_map c.settle_wide.result
    (λ settled. only_shows c.args.editor.now c.settle_wide.new.editor settled.recording)
    c.settle_wide.ensures.ok

pub returns-clause-recording : goal.returns-clause-recording
returns-clause-recording g c =
    settled_recording c.settle_wide.result c.args.editor.now c.settle_wide.new.editor c.settle_wide.ensures.ok
    c.settle_wide.ensures.err
