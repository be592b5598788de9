-- What was written so far and the lines of the frames that are left make the whole; the stage stands at the
-- place that the last frame led to.
use Rattle.std.proofs.Common.{◌≡◌, ℕ, ◌-◌, List, Option, option_map, length, refl, ap, subst, arith}
use Rattle.std.proofs.lemmas.Result.{err_from_is_err_and}
use Rattle.w4_console.specs.Taken.{frame_line, taken_of}
use Rattle.w4_defs.specs.Endings.{manner_of}
use Rattle.w4_defs.specs.PlaceTexts.{as_it_stands, place_texts}
use Rattle.w4_defs.specs.Units.{start_line, start_units, units_at, units_text}
use Rattle.w4_house.proofs.WorldLaws.{writing_then}
use Rattle.w4_answers.specs.Writing.{AppendsOut, StopsWriting}
use Rattle.w4_commands.specs.Scene.{scene_setup}
use Rattle.w4_answers.proofs.WritingLaws.{OwesThere, there_begins, there_is, there_less, there_stopped}
use Rattle.w4_answers.proofs.PlaceTextLaws.{texts-more, texts-all, texts-stop}
use Rattle.w4_commands.proofs.units.write_lines.Goals as goal

pub loop-place-init : goal.loop-place-init
loop-place-init g c =
    let setup = scene_setup c.args.scene.now in
    let disk = c.args.scene.now.disk.now in
    let inputs = c.args.inputs.now in
    let text : ℕ → Option (List ℕ) = units_at as_it_stands setup disk inputs in
    let whole = units_text setup disk inputs in
    let first = g.H.House.world c.args.house.now in
    let now = g.H.House.world c.write_start.new.house in
    let all : length inputs ≡ length inputs - 0 = omega arith in (
      subst (λ n. OwesThere first now (place_texts text 0 n) whole) all
          (there_less first first now (option_map start_line (start_units setup disk))
          (place_texts text 0 (length inputs)) whole
          (there_is (λ bytes. AppendsOut first.events now.events bytes)
          (option_map start_line (start_units setup disk)) (start_line (taken_of c.begin_run-start.result))
          (ap (option_map start_line) c.begin_run-start.ensures.taken) c.in_ok-write_start.ensures.out)
          (there_begins first whole)),
      omega arith,
      c.begin_run-start.ensures.place,
      c.in_ok-write_start.ensures.rest,
    )

pub loop-place-preserved : goal.loop-place-preserved
loop-place-preserved g c =
    let setup = scene_setup c.args.scene.now in
    let disk = c.args.scene.now.disk.now in
    let inputs = c.args.inputs.now in
    let text : ℕ → Option (List ℕ) = units_at as_it_stands setup disk inputs in
    let whole = units_text setup disk inputs in
    let at = c.loop-place.place in
    let first = g.H.House.world c.args.house.now in
    let now = g.H.House.world c.loop-place.house in
    let next = g.H.House.world c.write_line.new.house in (
      texts-more first now next text whole at (length inputs) (omega (arith, c.loop-place-test.true))
          (there_is (λ bytes. AppendsOut now.events next.events bytes) (text at)
          (frame_line at c.step_units-taken.result) (c.step_units-taken.ensures.taken as_it_stands)
          c.in_ok-write_line.ensures.out)
          c.loop-place.invariant.0,
      omega (arith, c.loop-place-test.true),
      c.step_units-taken.ensures.place,
      writing_then first now next c.loop-place.invariant.3 c.in_ok-write_line.ensures.rest,
    )

pub returns-clause-out : goal.returns-clause-out
returns-clause-out g c =
    let setup = scene_setup c.args.scene.now in
    let disk = c.args.scene.now.disk.now in
    let inputs = c.args.inputs.now in
    texts-all (g.H.House.world c.args.house.now) (g.H.House.world c.loop-place.house)
    (units_at as_it_stands setup disk inputs) (units_text setup disk inputs) c.loop-place.place
    (length inputs)
    (omega (arith, c.loop-place-test.false)) c.loop-place.invariant.0

pub returns-in_err-write_start-clause-out : goal.returns-in_err-write_start-clause-out
returns-in_err-write_start-clause-out g c =
    let p = err_from_is_err_and c.from_residual.result c.from_residual.ensures.1 in
    let setup = scene_setup c.args.scene.now in
    let disk = c.args.scene.now.disk.now in
    let inputs = c.args.inputs.now in
    let text : ℕ → Option (List ℕ) = units_at as_it_stands setup disk inputs in
    let whole = units_text setup disk inputs in
    let first = g.H.House.world c.args.house.now in
    let now = g.H.House.world c.write_start.new.house in
    let why = manner_of c.in_err-write_start.field-0.0 in
    rw (p.1, p.2)
    (there_stopped first first now why (option_map start_line (start_units setup disk))
    (place_texts text 0 (length inputs)) whole whole refl (omega arith) (there_begins first whole)
    (there_is (λ bytes. StopsWriting first now why bytes) (option_map start_line (start_units setup disk))
    (start_line (taken_of c.begin_run-start.result))
    (ap (option_map start_line) c.begin_run-start.ensures.taken) c.in_err-write_start.ensures.out))

pub returns-in_err-write_line-clause-out : goal.returns-in_err-write_line-clause-out
returns-in_err-write_line-clause-out g c =
    let p =
    err_from_is_err_and c.from_residual-in_err-write_line.result
    c.from_residual-in_err-write_line.ensures.1 in
    let setup = scene_setup c.args.scene.now in
    let disk = c.args.scene.now.disk.now in
    let inputs = c.args.inputs.now in
    let text : ℕ → Option (List ℕ) = units_at as_it_stands setup disk inputs in
    let whole = units_text setup disk inputs in
    let at = c.loop-place.place in
    let first = g.H.House.world c.args.house.now in
    let now = g.H.House.world c.loop-place.house in
    let next = g.H.House.world c.write_line.new.house in
    let why = manner_of c.in_err-write_line.field-0.0 in
    rw (p.1, p.2)
    (texts-stop first now next why text whole at (length inputs) (omega (arith, c.loop-place-test.true))
    c.loop-place.invariant.3.later c.loop-place.invariant.0
    (there_is (λ bytes. StopsWriting now next why bytes) (text at)
    (frame_line at c.step_units-taken.result) (c.step_units-taken.ensures.taken as_it_stands)
    c.in_err-write_line.ensures.out))
