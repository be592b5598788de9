use Rattle.std.proofs.Common.{subst}
use Rattle.w4_defs.specs.declared.status.Refusal.{Refusal}
use Rattle.w4_defs.specs.Endings.{manner_of}
use Rattle.w4_defs.specs.Recording.{encoding}
use Rattle.w4_editor.specs.Editor.{current_recording}
use Rattle.w4_answers.specs.Saving.{StopsSaving}
use Rattle.w4_answers.proofs.LiveAnswerLaws.{other_manner, save_refused, save_replaced, save_stopped}
use Rattle.w4_answers.proofs.LiveAnswerLaws.{serving_saving, serving_then, serving_writing}
use Rattle.w4_answers.proofs.live_answer.answer_save.Goals as goal

pub returns-in-Ok-clause-saves : goal.returns-in-Ok-clause-saves
returns-in-Ok-clause-saves g c = λ o s named is.
    save_replaced c.write_bytes.result (g.H.House.world c.args.house.now)
    (g.H.House.world c.save_recording.new.house) (g.H.House.world c.write_bytes.new.house) o s c.args.out.now
    (current_recording c.args.desk.now.counted.editor) named is c.in-Ok.ensures.rest.later
    c.in-Ok.ensures.saved
    c.write_bytes.ensures.rest c.write_bytes.ensures.out

pub returns-in-Ok-clause-rest : goal.returns-in-Ok-clause-rest
returns-in-Ok-clause-rest g c =
    let before = g.H.House.world c.args.house.now in
    let mid = g.H.House.world c.save_recording.new.house in
    let after = g.H.House.world c.write_bytes.new.house in
    serving_then before mid after (serving_saving before mid c.in-Ok.ensures.rest)
    (serving_writing mid after c.write_bytes.ensures.rest)

pub returns-in-WriteFault-clause-saves : goal.returns-in-WriteFault-clause-saves
returns-in-WriteFault-clause-saves g c = λ o s named is.
    let before = g.H.House.world c.args.house.now in
    let mid = g.H.House.world c.save_recording.new.house in
    let left = current_recording c.args.desk.now.counted.editor in
    save_refused c.refuse_save.result before mid (g.H.House.world c.refuse_save.new.house) o s c.args.out.now
    left named is
    (subst (λ (r : Refusal). StopsSaving before mid (manner_of r) c.args.out.now (encoding 2 left))
    c.in-WriteFault.is c.in-Err.ensures.saved)
    c.refuse_save.ensures.rest c.refuse_save.ensures.out

pub returns-in-WriteFault-clause-rest : goal.returns-in-WriteFault-clause-rest
returns-in-WriteFault-clause-rest g c =
    let before = g.H.House.world c.args.house.now in
    let mid = g.H.House.world c.save_recording.new.house in
    let after = g.H.House.world c.refuse_save.new.house in
    serving_then before mid after (serving_saving before mid c.in-Err.ensures.rest)
    (serving_writing mid after c.refuse_save.ensures.rest)

pub returns-in_default-clause-saves : goal.returns-in_default-clause-saves
returns-in_default-clause-saves g c = λ o s named is.
    save_stopped (g.H.House.world c.args.house.now) (g.H.House.world c.save_recording.new.house)
    (manner_of c.in-Err.why) o s c.args.out.now (current_recording c.args.desk.now.counted.editor)
    (other_manner c.in-Err.why c.in_default.not-WriteFault) c.in-Err.ensures.saved

pub returns-in_default-clause-rest : goal.returns-in_default-clause-rest
returns-in_default-clause-rest g c =
    serving_saving (g.H.House.world c.args.house.now) (g.H.House.world c.save_recording.new.house)
    c.in-Err.ensures.rest
