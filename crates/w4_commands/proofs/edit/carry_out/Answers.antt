use Rattle.std.proofs.Common.{refl}
use Rattle.std.proofs.lemmas.Result.{err_from_is_err_and}
use Rattle.w4_defs.specs.KeptList.{state_at}
use Rattle.w4_commands.specs.Edit.{run_and_orders}
use Rattle.w4_house.proofs.WorldLaws.{reading_none, writing_none}
use Rattle.w4_answers.proofs.WritingLaws.{front_does, out_none}
use Rattle.w4_commands.proofs.EditLaws.{opened_carried}
use Rattle.w4_commands.proofs.edit.carry_out.Goals as goal

pub returns-clause-carried : goal.returns-clause-carried
returns-clause-carried g c =
    let editor = c.in_ok-desk.desk.counted.editor in
    let before = g.H.House.world c.args.house.now in
    let after = g.H.House.world c.answer_and_save-end.new.house in
    let result = c.answer_and_save-end.result in
    opened_carried before after result c.args.cart (run_and_orders c.args.run c.args.task.orders.now) editor
    (state_at editor.session.current.kept 0) c.args.task.out.now c.in_ok-desk.ensures
    c.answer_and_save-end.ensures.carried

pub returns-in_err-desk-clause-carried : goal.returns-in_err-desk-clause-carried
returns-in_err-desk-clause-carried g c =
    let begin = g.H.House.world c.args.house.now in
    let p = err_from_is_err_and c.from_residual.result c.from_residual.ensures.1 in
    rw (p.1, p.2) (λ out is. front_does begin begin begin out (reading_none begin) (writing_none begin)
    (out_none begin.events begin.events out refl))
