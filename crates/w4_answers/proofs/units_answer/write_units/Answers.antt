use Rattle.std.proofs.Common.{List, ℕ, ◌++◌, ◌∙◌, ap, subst}
use Rattle.w4_console.specs.Taken.{frame_line}
use Rattle.w4_answers.specs.Writing.{Written}
use Rattle.w4_answers.specs.UnitsAnswer.{units_by}
use Rattle.w4_answers.proofs.WritingLaws.{there_is}
use Rattle.w4_answers.proofs.units_answer.write_units.Goals as goal

pub returns-clause-out : goal.returns-clause-out
returns-clause-out g c =
    let before = g.H.House.world c.args.house.now in
    let after = g.H.House.world c.write.new.house in
    let line = frame_line c.args.k c.in_ok-taken.taken in
    there_is (λ text. Written before after c.write.result text)
    (units_by g.S.Shape.form c.args.desk.now.counted.editor c.args.k) (g.S.Shape.form line)
    (c.in_ok-taken.ensures.taken g.S.Shape.form)
    (subst (λ (bytes : List ℕ). Written before after c.write.result (g.S.Shape.form bytes))
    (c.as_slice.ensures.value
    ∙ c.in_ok-units_line.ensures.text
    ∙ ap (λ (old : List ℕ). old ++ line) c.new-line.ensures.items) c.write.ensures.out)
