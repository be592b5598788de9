use Rattle.std.proofs.Common.{◌≡◌, ◌+◌, ◌-◌, arith, sym, subst, ◌∙◌}
use Rattle.std.proofs.lemmas.Result.{err_from_is_err_and}
use Rattle.w4_house.proofs.WorldLaws.{writing_then, writing_none}
use Rattle.w4_answers.specs.Writing.{AppendsOut, StopsWriting}
use Rattle.w4_answers.specs.Desk.{RunsOn}
use Rattle.w4_answers.specs.UnitsAnswer.{units_by}
use Rattle.w4_answers.proofs.DeskLaws.{run_all, run_begins, run_on}
use Rattle.w4_defs.specs.Endings.{manner_of}
use Rattle.w4_defs.specs.PlaceTexts.{place_texts}
use Rattle.w4_answers.proofs.WritingLaws.{there_as, there_begins}
use Rattle.w4_answers.proofs.PlaceTextLaws.{texts-more, texts-all, texts-stop}
use Rattle.w4_answers.proofs.UnitsAnswerLaws.{same_units}
use Rattle.w4_answers.proofs.DeskSessionLaws.{shows_none, shows_recording, shows_then}
use Rattle.w4_answers.proofs.units_answer.write_all_units.Goals as goal

pub loop-k-init : goal.loop-k-init
loop-k-init g c =
    let first = c.args.desk.now.counted.editor in
    let begin = g.H.House.world c.args.house.now in (
      there_begins begin (place_texts (units_by g.S.Shape.form first) c.args.a (c.args.b - c.args.a)),
      shows_none first,
      writing_none begin,
      run_begins 1 (c.args.a + 1) (c.args.b + 1) c.args.desk.now.counted.steps first,
    )

pub loop-k-preserved : goal.loop-k-preserved
loop-k-preserved g c =
    let first = c.args.desk.now.counted.editor in
    let now = c.loop-k.desk.counted.editor in
    let next = c.write_units.new.desk.counted.editor in
    let at = c.loop-k.k in
    let text = units_by g.S.Shape.form first in
    let begin = g.H.House.world c.args.house.now in
    let before = g.H.House.world c.loop-k.house in
    let after = g.H.House.world c.write_units.new.house in
    let shows = c.loop-k.invariant.1 in (
      texts-more begin before after text (place_texts text c.args.a (c.args.b - c.args.a)) at
          c.args.b c.loop-k-test.true
          (there_as (λ bytes. AppendsOut before.events after.events bytes) (units_by g.S.Shape.form now at)
          (text at)
          (sym (same_units g.S.Shape.form first now at shows)) c.in_ok-write_units.ensures.out)
          c.loop-k.invariant.0,
      shows_then first now next shows c.in_ok-write_units.ensures.shows,
      writing_then begin before after c.loop-k.invariant.2 c.in_ok-write_units.ensures.rest,
      (let from = c.loop-k.auto.k in
          let below = c.loop-k-test.true in
          run_on 1 (c.args.a + 1) (c.args.b + 1) (at + 1) c.args.desk.now.counted.steps
          c.loop-k.desk.counted.steps c.write_units.new.desk.counted.steps first now next
          (omega (arith, from)) (omega (arith, below)) c.loop-k.invariant.3
          c.in_ok-write_units.ensures.made c.in_ok-write_units.ensures.steps),
    )

pub returns-clause-out : goal.returns-clause-out
returns-clause-out g c =
    let text = units_by g.S.Shape.form c.args.desk.now.counted.editor in
    texts-all (g.H.House.world c.args.house.now) (g.H.House.world c.loop-k.house) text
    (place_texts text c.args.a (c.args.b - c.args.a)) c.loop-k.k c.args.b
    c.loop-k-test.false c.loop-k.invariant.0

pub returns-in_err-write_units-clause-out : goal.returns-in_err-write_units-clause-out
returns-in_err-write_units-clause-out g c =
    let p = err_from_is_err_and c.from_residual.result c.from_residual.ensures.1 in
    let first = c.args.desk.now.counted.editor in
    let now = c.loop-k.desk.counted.editor in
    let at = c.loop-k.k in
    let text = units_by g.S.Shape.form first in
    let before = g.H.House.world c.loop-k.house in
    let after = g.H.House.world c.write_units.new.house in
    let why = manner_of c.in_err-write_units.field-0.0 in
    rw (p.1, p.2)
    (texts-stop (g.H.House.world c.args.house.now) before after why text
    (place_texts text c.args.a (c.args.b - c.args.a)) at c.args.b c.loop-k-test.true
    c.loop-k.invariant.2.later c.loop-k.invariant.0
    (there_as (λ bytes. StopsWriting before after why bytes) (units_by g.S.Shape.form now at) (text at)
    (sym (same_units g.S.Shape.form first now at c.loop-k.invariant.1)) c.in_err-write_units.ensures.out))

pub returns-clause-recording : goal.returns-clause-recording
returns-clause-recording g c =
    shows_recording c.args.desk.now.counted.editor c.loop-k.desk.counted.editor c.loop-k.invariant.1

pub returns-in_err-write_units-clause-recording : goal.returns-in_err-write_units-clause-recording
returns-in_err-write_units-clause-recording g c =
    c.in_err-write_units.ensures.recording
    ∙ shows_recording c.args.desk.now.counted.editor c.loop-k.desk.counted.editor c.loop-k.invariant.1

pub returns-clause-frames_run : goal.returns-clause-frames_run
returns-clause-frames_run g c =
    let first = c.args.desk.now.counted.editor in
    let now = c.loop-k.desk.counted.editor in
    let begin : c.args.a + 1 - 1 ≡ c.args.a = omega arith in
    let many : c.args.b + 1 - (c.args.a + 1) ≡ c.args.b - c.args.a = omega arith in
    subst (λ p. RunsOn p (c.args.b - c.args.a) c.args.desk.now.counted.steps c.loop-k.desk.counted.steps first
    now)
    begin
    (subst (λ n. RunsOn (c.args.a + 1 - 1) n c.args.desk.now.counted.steps c.loop-k.desk.counted.steps first
    now)
    many
    (run_all 1 (c.args.a + 1) (c.args.b + 1) (c.loop-k.k + 1) c.args.desk.now.counted.steps
    c.loop-k.desk.counted.steps first now c.loop-k.invariant.3))
