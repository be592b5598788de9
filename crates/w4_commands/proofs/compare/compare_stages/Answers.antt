use Rattle.std.proofs.Common.{◌≡◌, ◌+◌, ℕ, length, subst, arith}
use Rattle.std.specs.Prelude.{min}
use Rattle.w4_commands.specs.Compare.{ComparedTo}
use Rattle.w4_commands.specs.Scene.{scene_side}
use Rattle.w4_commands.proofs.CompareLaws.{places_begin, places_go_on, stands_still}
use Rattle.w4_commands.proofs.compare.compare_stages.Goals as goal

pub loop-place-init : goal.loop-place-init
loop-place-init c =
    let scene = c.args.side.now.scene in
    let other_scene = c.args.other_side.now.scene in (
      places_begin scene other_scene c.args.side.now.inputs.now c.args.other_side.now.inputs.now
          c.run_to.new.self
          c.run_to-2.new.self c.none-found.result c.note_place.new.self
          c.none-found.ensures c.in_ok-note_place.ensures.found c.run_to.ensures c.run_to-2.ensures,
      omega arith,
      stands_still scene c.args.side.now.inputs.now 0 c.run_to.new.self c.note_place.new.one
          c.note_place.ensures.one
          c.run_to.ensures,
      stands_still other_scene c.args.other_side.now.inputs.now 0 c.run_to-2.new.self c.note_place.new.other
          c.note_place.ensures.other c.run_to-2.ensures,
    )

pub loop-place-preserved : goal.loop-place-preserved
loop-place-preserved c =
    let scene = c.args.side.now.scene in
    let other_scene = c.args.other_side.now.scene in
    let place = c.loop-place.place in (
      places_go_on scene other_scene c.args.side.now.inputs.now c.args.other_side.now.inputs.now place
          c.step.new.self
          c.step-in-loop-place.new.self c.loop-place.found c.note_place-in-loop-place.new.self
          c.in_ok-note_place-2.ensures.found c.step.ensures c.step-in-loop-place.ensures
          c.loop-place.invariant.0,
      omega (arith, c.loop-place-test.true, c.min-place-end.ensures),
      stands_still scene c.args.side.now.inputs.now (place + 1) c.step.new.self
          c.note_place-in-loop-place.new.one
          c.note_place-in-loop-place.ensures.one c.step.ensures,
      stands_still other_scene c.args.other_side.now.inputs.now (place + 1) c.step-in-loop-place.new.self
          c.note_place-in-loop-place.new.other c.note_place-in-loop-place.ensures.other
          c.step-in-loop-place.ensures,
    )

pub returns : goal.returns
returns c =
    let whole : c.loop-place.place ≡ min (length c.args.side.now.inputs.now)
    (length c.args.other_side.now.inputs.now) =
    omega (arith, c.loop-place-test.false, c.loop-place.invariant.1, c.min-place-end.ensures) in
    subst
    (λ (n : ℕ). ComparedTo (scene_side c.args.side.now.scene c.args.side.now.inputs.now)
    (scene_side c.args.other_side.now.scene c.args.other_side.now.inputs.now) n c.loop-place.found) whole
    c.loop-place.invariant.0
