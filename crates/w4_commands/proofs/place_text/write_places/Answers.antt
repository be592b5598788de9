-- What was told so far and the places that are left make the whole; the stage stands at the place that was
-- told last.
use Rattle.std.proofs.Common.{◌+◌, ◌-◌, List, ℕ, Option, refl, arith}
use Rattle.std.proofs.lemmas.Result.{err_from_is_err_and}
use Rattle.w4_defs.specs.Run.{run}
use Rattle.w4_answers.specs.Writing.{AppendsOut, StopsWriting}
use Rattle.w4_house.proofs.WorldLaws.{writing_then}
use Rattle.w4_defs.specs.Endings.{manner_of}
use Rattle.w4_commands.specs.Scene.{scene_setup}
use Rattle.w4_commands.specs.Stage.{stage_moment}
use Rattle.w4_defs.specs.PlaceTexts.{as_it_stands, place_text, moment_text, place_texts}
use Rattle.w4_answers.proofs.WritingLaws.{there_begins, there_is}
use Rattle.w4_answers.proofs.PlaceTextLaws.{texts-more, texts-all, texts-stop}
use Rattle.w4_commands.proofs.place_text.write_places.Goals as goal

pub loop-place-init : goal.loop-place-init
loop-place-init g c =
    let text : ℕ → Option (List ℕ) =
    λ place.
    place_text as_it_stands c.args.wanted.text place
    (run (scene_setup c.args.scene.now) c.args.scene.now.disk.now c.args.inputs.now place) in
    let whole = place_texts text c.args.wanted.from (c.args.wanted.to + 1 - c.args.wanted.from) in
    let first = g.H.House.world c.args.house.now in
    let now = g.H.House.world c.write_place.new.house in (
      texts-more first first now text whole c.args.wanted.from (c.args.wanted.to + 1) (omega
          (arith, c.requires.order))
          (there_is (λ bytes. AppendsOut first.events now.events bytes) (text c.args.wanted.from)
          (moment_text c.args.wanted.text c.args.wanted.from (stage_moment c.run_to.new.self))
          (rw c.run_to.ensures.0 refl) c.in_ok-write_place.ensures.out)
          (there_begins first whole),
      c.requires.order,
      rw (c.in_ok-write_place.ensures.console, c.in_ok-write_place.ensures.frame_record) c.run_to.ensures,
      c.in_ok-write_place.ensures.rest,
    )

pub loop-place-preserved : goal.loop-place-preserved
loop-place-preserved g c =
    let text : ℕ → Option (List ℕ) =
    λ place.
    place_text as_it_stands c.args.wanted.text place
    (run (scene_setup c.args.scene.now) c.args.scene.now.disk.now c.args.inputs.now place) in
    let whole = place_texts text c.args.wanted.from (c.args.wanted.to + 1 - c.args.wanted.from) in
    let at = c.loop-place.place + 1 in
    let first = g.H.House.world c.args.house.now in
    let now = g.H.House.world c.loop-place.house in
    let next = g.H.House.world c.write_place-in-loop-place.new.house in (
      texts-more first now next text whole at (c.args.wanted.to + 1) (omega (arith, c.loop-place-test.true))
          (there_is (λ bytes. AppendsOut now.events next.events bytes) (text at)
          (moment_text c.args.wanted.text at (stage_moment c.step.new.self))
          (rw c.step.ensures.0 refl) c.in_ok-write_place-2.ensures.out)
          c.loop-place.invariant.0,
      omega (arith, c.loop-place-test.true),
      rw (c.in_ok-write_place-2.ensures.console, c.in_ok-write_place-2.ensures.frame_record) c.step.ensures,
      writing_then first now next c.loop-place.invariant.3 c.in_ok-write_place-2.ensures.rest,
    )

pub returns-clause-out : goal.returns-clause-out
returns-clause-out g c =
    let text : ℕ → Option (List ℕ) =
    λ place.
    place_text as_it_stands c.args.wanted.text place
    (run (scene_setup c.args.scene.now) c.args.scene.now.disk.now c.args.inputs.now place) in
    texts-all (g.H.House.world c.args.house.now) (g.H.House.world c.loop-place.house) text
    (place_texts text c.args.wanted.from (c.args.wanted.to + 1 - c.args.wanted.from))
    (c.loop-place.place + 1) (c.args.wanted.to + 1)
    (omega (arith, c.loop-place-test.false)) c.loop-place.invariant.0

pub returns-in_err-write_place-clause-out : goal.returns-in_err-write_place-clause-out
returns-in_err-write_place-clause-out g c =
    let p = err_from_is_err_and c.from_residual.result c.from_residual.ensures.1 in
    let text : ℕ → Option (List ℕ) =
    λ place.
    place_text as_it_stands c.args.wanted.text place
    (run (scene_setup c.args.scene.now) c.args.scene.now.disk.now c.args.inputs.now place) in
    let whole = place_texts text c.args.wanted.from (c.args.wanted.to + 1 - c.args.wanted.from) in
    let first = g.H.House.world c.args.house.now in
    let now = g.H.House.world c.write_place.new.house in
    let why = manner_of c.in_err-write_place.field-0.0 in
    rw (p.1, p.2)
    (texts-stop first first now why text whole c.args.wanted.from (c.args.wanted.to + 1) (omega
    (arith, c.requires.order))
    (omega arith) (there_begins first whole)
    (there_is (λ bytes. StopsWriting first now why bytes) (text c.args.wanted.from)
    (moment_text c.args.wanted.text c.args.wanted.from (stage_moment c.run_to.new.self))
    (rw c.run_to.ensures.0 refl) c.in_err-write_place.ensures.out))

pub returns-in_err-write_place-2-clause-out : goal.returns-in_err-write_place-2-clause-out
returns-in_err-write_place-2-clause-out g c =
    let p =
    err_from_is_err_and c.from_residual-in_err-write_place-2.result
    c.from_residual-in_err-write_place-2.ensures.1 in
    let text : ℕ → Option (List ℕ) =
    λ place.
    place_text as_it_stands c.args.wanted.text place
    (run (scene_setup c.args.scene.now) c.args.scene.now.disk.now c.args.inputs.now place) in
    let whole = place_texts text c.args.wanted.from (c.args.wanted.to + 1 - c.args.wanted.from) in
    let at = c.loop-place.place + 1 in
    let first = g.H.House.world c.args.house.now in
    let now = g.H.House.world c.loop-place.house in
    let next = g.H.House.world c.write_place-in-loop-place.new.house in
    let why = manner_of c.in_err-write_place-2.field-0.0 in
    rw (p.1, p.2)
    (texts-stop first now next why text whole at (c.args.wanted.to + 1) (omega
    (arith, c.loop-place-test.true))
    c.loop-place.invariant.3.later c.loop-place.invariant.0
    (there_is (λ bytes. StopsWriting now next why bytes) (text at)
    (moment_text c.args.wanted.text at (stage_moment c.step.new.self))
    (rw c.step.ensures.0 refl) c.in_err-write_place-2.ensures.out))
