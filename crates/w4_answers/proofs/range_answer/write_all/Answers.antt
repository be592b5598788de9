use Rattle.std.proofs.Common.{◌+◌, ◌-◌, sym, ◌∙◌}
use Rattle.std.proofs.lemmas.Result.{err_from_is_err_and}
use Rattle.w4_house.proofs.WorldLaws.{writing_then, writing_none}
use Rattle.w4_answers.specs.Writing.{AppendsOut, StopsWriting}
use Rattle.w4_answers.specs.RangeAnswer.{lead_of}
use Rattle.w4_answers.specs.Desk.{text_by}
use Rattle.w4_answers.proofs.DeskLaws.{run_all, run_begins, run_on}
use Rattle.w4_defs.specs.Endings.{manner_of}
use Rattle.w4_defs.specs.PlaceTexts.{place_texts}
use Rattle.w4_answers.proofs.WritingLaws.{there_as, there_begins}
use Rattle.w4_answers.proofs.PlaceTextLaws.{texts-more, texts-all, texts-stop}
use Rattle.w4_answers.proofs.DeskSessionLaws.{same_text, shows_none, shows_recording, shows_then}
use Rattle.w4_answers.proofs.range_answer.write_all.Goals as goal

pub loop-place-init : goal.loop-place-init
loop-place-init g c =
    let first = c.args.desk.now.counted.editor in
    let begin = g.H.House.world c.args.house.now in (
      there_begins begin (place_texts (text_by g.S.Shape.form first c.args.wanted) c.args.a
          (c.args.b + 1 - c.args.a)),
      shows_none first,
      writing_none begin,
      run_begins (lead_of c.args.wanted) c.args.a (c.args.b + 1) c.args.desk.now.counted.steps first,
    )

pub loop-place-preserved : goal.loop-place-preserved
loop-place-preserved g c =
    let first = c.args.desk.now.counted.editor in
    let now = c.loop-place.desk.counted.editor in
    let next = c.write_one.new.desk.counted.editor in
    let at = c.loop-place.place in
    let text = text_by g.S.Shape.form first c.args.wanted in
    let begin = g.H.House.world c.args.house.now in
    let before = g.H.House.world c.loop-place.house in
    let after = g.H.House.world c.write_one.new.house in
    let shows = c.loop-place.invariant.1 in (
      texts-more begin before after text (place_texts text c.args.a (c.args.b + 1 - c.args.a)) at
          (c.args.b + 1) c.loop-place-test.true
          (there_as (λ bytes. AppendsOut before.events after.events bytes)
          (text_by g.S.Shape.form now c.args.wanted at) (text at)
          (sym (same_text g.S.Shape.form first now c.args.wanted at shows)) c.in_ok-write_one.ensures.out)
          c.loop-place.invariant.0,
      shows_then first now next shows c.in_ok-write_one.ensures.shows,
      writing_then begin before after c.loop-place.invariant.2 c.in_ok-write_one.ensures.rest,
      run_on (lead_of c.args.wanted) c.args.a (c.args.b + 1) at c.args.desk.now.counted.steps
          c.loop-place.desk.counted.steps c.write_one.new.desk.counted.steps first now next
          c.loop-place.auto.place c.loop-place-test.true c.loop-place.invariant.3
          c.in_ok-write_one.ensures.made c.in_ok-write_one.ensures.steps,
    )

pub returns-clause-out : goal.returns-clause-out
returns-clause-out g c =
    let text = text_by g.S.Shape.form c.args.desk.now.counted.editor c.args.wanted in
    texts-all (g.H.House.world c.args.house.now) (g.H.House.world c.loop-place.house) text
    (place_texts text c.args.a (c.args.b + 1 - c.args.a)) c.loop-place.place (c.args.b + 1)
    c.loop-place-test.false c.loop-place.invariant.0

pub returns-in_err-write_one-clause-out : goal.returns-in_err-write_one-clause-out
returns-in_err-write_one-clause-out g c =
    let p = err_from_is_err_and c.from_residual.result c.from_residual.ensures.1 in
    let first = c.args.desk.now.counted.editor in
    let now = c.loop-place.desk.counted.editor in
    let at = c.loop-place.place in
    let text = text_by g.S.Shape.form first c.args.wanted in
    let before = g.H.House.world c.loop-place.house in
    let after = g.H.House.world c.write_one.new.house in
    let why = manner_of c.in_err-write_one.field-0.0 in
    rw (p.1, p.2)
    (texts-stop (g.H.House.world c.args.house.now) before after why text
    (place_texts text c.args.a (c.args.b + 1 - c.args.a)) at (c.args.b + 1) c.loop-place-test.true
    c.loop-place.invariant.2.later c.loop-place.invariant.0
    (there_as (λ bytes. StopsWriting before after why bytes) (text_by g.S.Shape.form now c.args.wanted at)
    (text at)
    (sym (same_text g.S.Shape.form first now c.args.wanted at c.loop-place.invariant.1))
    c.in_err-write_one.ensures.out))

pub returns-clause-recording : goal.returns-clause-recording
returns-clause-recording g c =
    shows_recording c.args.desk.now.counted.editor c.loop-place.desk.counted.editor c.loop-place.invariant.1

pub returns-in_err-write_one-clause-recording : goal.returns-in_err-write_one-clause-recording
returns-in_err-write_one-clause-recording g c =
    c.in_err-write_one.ensures.recording
    ∙ shows_recording c.args.desk.now.counted.editor c.loop-place.desk.counted.editor c.loop-place.invariant.1

pub returns-clause-frames_run : goal.returns-clause-frames_run
returns-clause-frames_run g c =
    run_all (lead_of c.args.wanted) c.args.a (c.args.b + 1) c.loop-place.place c.args.desk.now.counted.steps
    c.loop-place.desk.counted.steps c.args.desk.now.counted.editor c.loop-place.desk.counted.editor
    c.loop-place.invariant.3
