use Rattle.std.proofs.Common.{ap}
use Rattle.std.proofs.lemmas.Result.{err_from_is_err_and}
use Rattle.w4_defs.specs.Endings.{manner_of}
use Rattle.w4_defs.specs.Recording.{Recording, encoding}
use Rattle.w4_editor.specs.Editor.{current_recording}
use Rattle.w4_answers.specs.ScriptAnswers.{recording_by}
use Rattle.w4_commands.proofs.EditLaws.{carried_saved, carries_stopped, recording_left}
use Rattle.w4_commands.proofs.edit.answer_and_save.Goals as goal

pub returns-clause-carried : goal.returns-clause-carried
returns-clause-carried g c =
    let editor = c.args.desk.now.counted.editor in
    let left = c.answer_all.new.desk.counted.editor in
    let orders = c.args.orders.now in
    let before = g.H.House.world c.args.house.now in
    let mid = g.H.House.world c.answer_all.new.house in
    let after = g.H.House.world c.save_recording.new.house in
    let answered = c.in_ok-answer_all.ensures.answered in
    λ out is.
    carried_saved c.save_recording.result before mid after out c.args.out.now
    (encoding 2 (current_recording left))
    (encoding 2 (recording_by editor orders)) c.in_ok-answer_all.ensures.rest (answered.out out is)
    (ap (λ (r : Recording). encoding 2 r) (recording_left before mid editor left orders answered))
    c.save_recording.ensures.saved

pub returns-in_err-answer_all-clause-carried : goal.returns-in_err-answer_all-clause-carried
returns-in_err-answer_all-clause-carried g c =
    let p = err_from_is_err_and c.from_residual.result c.from_residual.ensures.1 in
    λ out is. rw (p.1, p.2)
    (carries_stopped (g.H.House.world c.args.house.now) (g.H.House.world c.answer_all.new.house)
    (manner_of c.in_err-answer_all.field-0.0) out c.args.out.now
    (encoding 2 (recording_by c.args.desk.now.counted.editor c.args.orders.now))
    c.in_err-answer_all.ensures.rest
    (c.in_err-answer_all.ensures.answered out is))
