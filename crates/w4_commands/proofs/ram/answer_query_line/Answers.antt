use Rattle.w4_defs.specs.declared.order.Order.TheVariants as order
use Rattle.w4_editor.specs.Editor.{place_session}
use Rattle.w4_answers.specs.ChangeAnswer.{changed}
use Rattle.w4_answers.proofs.RamAnswerLaws.{told_by_order}
use Rattle.w4_commands.proofs.ram.answer_query_line.Goals as goal

pub returns-in-Ask-clause-told : goal.returns-in-Ask-clause-told
returns-in-Ask-clause-told g c = rw c.in-Ask.is c.answer_request.ensures.told

pub returns-in-Keep-clause-told : goal.returns-in-Keep-clause-told
returns-in-Keep-clause-told g c =
    let old = c.args.desk.now.counted.editor in
    let made = c.change-changed in
    let told = c.answer_changed in
    rw c.in-Keep.is
    (told_by_order told.result (g.H.House.world c.args.house.now) (g.H.House.world told.new.house) old
    made.new.counted.editor c.args.desk.now.search _
    (told.ensures.answered old made.new.counted.editor (changed (order.Keep c.in-Keep.p) (place_session old))
    made.ensures.changed made.ensures.recording))

pub returns-in-KeepEvery-clause-told : goal.returns-in-KeepEvery-clause-told
returns-in-KeepEvery-clause-told g c =
    let old = c.args.desk.now.counted.editor in
    let made = c.change-changed-in-KeepEvery in
    let told = c.answer_changed-in-KeepEvery in
    rw c.in-KeepEvery.is
    (told_by_order told.result (g.H.House.world c.args.house.now) (g.H.House.world told.new.house) old
    made.new.counted.editor c.args.desk.now.search _
    (told.ensures.answered old made.new.counted.editor
    (changed (order.KeepEvery c.in-KeepEvery.every) (place_session old)) made.ensures.changed
    made.ensures.recording))
