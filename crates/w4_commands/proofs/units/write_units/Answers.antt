use Rattle.std.proofs.Common.{ap, subst, ◌∙◌}
use Rattle.std.specs.Option.{ForSome}
use Rattle.w4_answers.specs.Writing.{Written}
use Rattle.w4_defs.specs.Comparison.{Side}
use Rattle.w4_defs.specs.Recording.{Recording}
use Rattle.w4_defs.specs.Units.{units_text}
use Rattle.w4_commands.specs.Scene.{scene_side}
use Rattle.w4_commands.proofs.units.write_units.Goals as goal

pub returns-clause-out : goal.returns-clause-out
returns-clause-out g c =
    subst (λ (side : Side). ForSome (units_text side.setup side.disk side.inputs)
    (λ text. Written (g.H.House.world c.args.house.now) (g.H.House.world c.write_lines-end.new.house)
    c.write_lines-end.result text))
    (ap (scene_side c.of_recording-scene.result) (c.as_slice-inputs.ensures.value
    ∙ ap (λ (r : Recording). r.frames) c.recording.view_is) ∙ c.of_recording-scene.ensures)
    c.write_lines-end.ensures.out
