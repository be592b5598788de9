use Rattle.std.proofs.Common.{List, ℕ, ap, subst, sym, ◌∙◌}
use Rattle.w4_defs.specs.State.{State}
use Rattle.w4_defs.specs.declared.place_text.PlaceText.TheVariants.{DiskBytes}
use Rattle.w4_answers.specs.Writing.{Written}
use Rattle.w4_answers.specs.Desk.{text_by}
use Rattle.w4_answers.proofs.ScriptAnswerLaws.{on_ok}
use Rattle.w4_answers.proofs.WritingLaws.{there_is}
use Rattle.w4_answers.proofs.DeskSessionLaws.{same_text}
use Rattle.w4_answers.proofs.RangeAnswerLaws.{disk_of_state, run_at}
use Rattle.w4_answers.proofs.range_answer.write_disk.Goals as goal

pub returns-clause-out : goal.returns-clause-out
returns-clause-out g c =
    let old = c.args.desk.now.counted.editor in
    let new = c.go_on.new.self.counted.editor in
    there_is
    (λ text.
    Written (g.H.House.world c.args.house.now) (g.H.House.world c.write.new.house) c.write.result text)
    (text_by g.S.Shape.form old DiskBytes c.args.place) (g.S.Shape.form c.state.result.now.disk)
    (sym (same_text g.S.Shape.form old new DiskBytes c.args.place c.in_ok-go_on.ensures.shows)
    ∙ disk_of_state g.S.Shape.form c.args.place (run_at new c.args.place) c.state.result.now
    (c.state.ensures c.args.place c.in_ok-go_on.ensures.at))
    (subst (λ (bytes : List ℕ).
    Written (g.H.House.world c.args.house.now) (g.H.House.world c.write.new.house) c.write.result
    (g.S.Shape.form bytes)) (c.bytes.ensures.bytes ∙ c.deref.ensures
    ∙ ap (λ (s : State). s.disk) c.behind-desk.view_is)
    c.write.ensures.out)

pub returns-clause-shows : goal.returns-clause-shows
returns-clause-shows g c = on_ok c.write.result c.in_ok-go_on.ensures.shows

pub returns-clause-made : goal.returns-clause-made
returns-clause-made g c = on_ok c.write.result c.in_ok-go_on.ensures.made

pub returns-clause-steps : goal.returns-clause-steps
returns-clause-steps g c = on_ok c.write.result c.in_ok-go_on.ensures.steps
