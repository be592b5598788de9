use Rattle.std.proofs.Common.{◌≡◌, ◌+◌, ◌-◌, length, refl, arith}
use Rattle.std.proofs.lemmas.Result.{err_from_is_err_and}
use Rattle.w4_defs.specs.Sound.{first_wave}
use Rattle.w4_answers.specs.Writing.{AppendsOut, StopsWriting}
use Rattle.w4_house.proofs.WorldLaws.{writing_then}
use Rattle.w4_defs.specs.Endings.{manner_of}
use Rattle.w4_commands.specs.Wave.{scene_record, scene_records}
use Rattle.w4_commands.specs.Stage.{stage_moment}
use Rattle.w4_commands.proofs.WaveLaws.{samples_at, samples_of, samples-begin, samples-go_on}
use Rattle.w4_commands.proofs.WaveLaws.{samples-stop_first, samples-stop, samples-end}
use Rattle.w4_commands.proofs.wave.write_samples.Goals as goal

pub loop-place-init : goal.loop-place-init
loop-place-init g c =
    let records = scene_record c.args.scene.now c.args.inputs.now in
    let all : length c.args.inputs.now - 0 ≡ length c.args.inputs.now = omega arith in (
      rw (all, ← c.new-wave.ensures)
          (samples-begin (g.H.House.world c.args.house.now) (g.H.House.world c.write_frame.new.house) records
          (stage_moment c.run_to.new.self).frame_record c.new-wave.result c.write_frame.new.wave
          (length c.args.inputs.now) (rw c.run_to.ensures.0 refl) c.in_ok-write_frame.ensures.out
          c.in_ok-write_frame.ensures.wave),
      omega arith,
      c.run_to.ensures,
      c.in_ok-write_frame.ensures.rest,
    )

pub loop-place-preserved : goal.loop-place-preserved
loop-place-preserved g c =
    let records = scene_record c.args.scene.now c.args.inputs.now in
    let first = g.H.House.world c.args.house.now in
    let now = g.H.House.world c.loop-place.house in
    let after = g.H.House.world c.write_frame-in-loop-place.new.house in (
      samples-go_on first now after records (stage_moment c.step.new.self).frame_record c.loop-place.wave
          c.write_frame-in-loop-place.new.wave c.loop-place.place (length c.args.inputs.now)
          (samples_at records first_wave 0 (length c.args.inputs.now + 1)) c.loop-place-test.true
          (rw c.step.ensures.0 refl) c.in_ok-write_frame-2.ensures.out c.in_ok-write_frame-2.ensures.wave
          c.loop-place.invariant.0,
      omega (arith, c.loop-place-test.true),
      c.step.ensures,
      writing_then first now after c.loop-place.invariant.3 c.in_ok-write_frame-2.ensures.rest,
    )

pub returns-clause-out : goal.returns-clause-out
returns-clause-out g c =
    let records = scene_record c.args.scene.now c.args.inputs.now in
    let places = length c.args.inputs.now + 1 in
    let old = g.H.House.world c.args.house.now in
    let new = g.H.House.world c.loop-place.house in
    samples_of (λ text. AppendsOut old.events new.events text)
    (scene_records c.args.scene.now c.args.inputs.now places)
    (samples-end old new records c.loop-place.wave c.loop-place.place (length c.args.inputs.now)
    (samples_at records first_wave 0 places) c.loop-place-test.false c.loop-place.invariant.0)

pub returns-in_err-write_frame-clause-out : goal.returns-in_err-write_frame-clause-out
returns-in_err-write_frame-clause-out g c =
    let p = err_from_is_err_and c.from_residual.result c.from_residual.ensures.1 in
    let records = scene_record c.args.scene.now c.args.inputs.now in
    let places = length c.args.inputs.now + 1 in
    let old = g.H.House.world c.args.house.now in
    let new = g.H.House.world c.write_frame.new.house in
    let why = manner_of c.in_err-write_frame.field-0.0 in
    rw (p.1, p.2)
    (samples_of (λ text. StopsWriting old new why text)
    (scene_records c.args.scene.now c.args.inputs.now places)
    (rw (← c.new-wave.ensures)
    (samples-stop_first old new why records (stage_moment c.run_to.new.self).frame_record c.new-wave.result
    (length c.args.inputs.now) (rw c.run_to.ensures.0 refl) c.in_err-write_frame.ensures.out)))

pub returns-in_err-write_frame-2-clause-out : goal.returns-in_err-write_frame-2-clause-out
returns-in_err-write_frame-2-clause-out g c =
    let p =
    err_from_is_err_and c.from_residual-in_err-write_frame-2.result
    c.from_residual-in_err-write_frame-2.ensures.1 in
    let records = scene_record c.args.scene.now c.args.inputs.now in
    let places = length c.args.inputs.now + 1 in
    let old = g.H.House.world c.args.house.now in
    let now = g.H.House.world c.loop-place.house in
    let new = g.H.House.world c.write_frame-in-loop-place.new.house in
    let why = manner_of c.in_err-write_frame-2.field-0.0 in
    rw (p.1, p.2)
    (samples_of (λ text. StopsWriting old new why text)
    (scene_records c.args.scene.now c.args.inputs.now places)
    (samples-stop old now new why records (stage_moment c.step.new.self).frame_record c.loop-place.wave
    c.loop-place.place (length c.args.inputs.now) (samples_at records first_wave 0 places)
    c.loop-place-test.true (rw c.step.ensures.0 refl) c.loop-place.invariant.3.later
    c.loop-place.invariant.0 c.in_err-write_frame-2.ensures.out))
