use Rattle.w4_answers.proofs.ChangeAnswerLaws.{changed_by_keep, unchanged_by_keep}
use Rattle.w4_editor.proofs.EditorPlaceLaws.{same_recording}
use Rattle.w4_answers.proofs.change_answer.keep_place.Goals as goal

pub returns-in-Ok-clause-changed : goal.returns-in-Ok-clause-changed
returns-in-Ok-clause-changed g c =
    changed_by_keep c.places_decide.ensures c.args.place c.args.counted.now.steps c.keep.new.steps
    c.in-Ok._copied
    c.args.counted.now.editor c.keep.new.self c.in-Ok.ensures.ok

pub returns-in-Err-clause-changed : goal.returns-in-Err-clause-changed
returns-in-Err-clause-changed g c =
    unchanged_by_keep c.places_decide.ensures c.args.place c.args.counted.now.editor c.keep.new.self
    c.in-Err.refusal c.in-Err.ensures.refused c.in-Err.ensures.unchanged

pub returns-in-Err-clause-recording : goal.returns-in-Err-clause-recording
returns-in-Err-clause-recording g c =
    same_recording c.args.counted.now.editor c.keep.new.self c.in-Err.ensures.err

pub returns-in-Ok-clause-frames_run : goal.returns-in-Ok-clause-frames_run
returns-in-Ok-clause-frames_run g c = (c.in-Ok._copied, c.in-Ok.ensures.ok)
