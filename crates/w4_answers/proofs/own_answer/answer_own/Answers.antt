use Rattle.std.proofs.Common.{ℕ, ◌-◌, subst}
use Rattle.std.specs.Option.{ForSome}
use Rattle.w4_defs.specs.PlaceTexts.{place_texts}
use Rattle.w4_defs.specs.ScriptAnswers.{if_place}
use Rattle.w4_defs.specs.Session.{Session}
use Rattle.w4_defs.specs.Units.{units_at}
use Rattle.w4_editor.specs.Editor.{editing_setup}
use Rattle.w4_answers.specs.Writing.{Written}
use Rattle.w4_answers.proofs.own_answer.answer_own.Goals as goal

pub returns-in-Units-clause-out : goal.returns-in-Units-clause-out
returns-in-Units-clause-out g c =
    let e = c.args.desk.now.counted.editor in
    let a = c.in-Units.a in
    let b = c.in-Units.b in
    let form = g.S.Shape.form in
    rw c.in-Units.is (λ s same. subst (λ (x : Session ℕ).
    ForSome (if_place form x b (place_texts (units_at form (editing_setup e) e.disk x.current.inputs) a
    (b - a)))
    (λ text. Written (g.H.House.world c.args.house.now) (g.H.House.world c.answer_units.new.house)
    c.answer_units.result text)) same c.answer_units.ensures.out)

pub returns-in-PageAt-clause-frames_run : goal.returns-in-PageAt-clause-frames_run
returns-in-PageAt-clause-frames_run g c = rw c.in-PageAt.is c.answer_part.ensures.frames_run

pub returns-in-GlobalsAt-clause-frames_run : goal.returns-in-GlobalsAt-clause-frames_run
returns-in-GlobalsAt-clause-frames_run g c =
    rw c.in-GlobalsAt.is c.answer_part-in-GlobalsAt.ensures.frames_run

pub returns-in-Units-clause-frames_run : goal.returns-in-Units-clause-frames_run
returns-in-Units-clause-frames_run g c = rw c.in-Units.is c.answer_units.ensures.frames_run
