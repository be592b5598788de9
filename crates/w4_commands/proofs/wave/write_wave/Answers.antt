use Rattle.std.proofs.Common.{ap, subst, ◌∙◌}
use Rattle.std.specs.Option.{ForSome}
use Rattle.w4_answers.specs.Writing.{Written}
use Rattle.w4_defs.specs.Comparison.{Side}
use Rattle.w4_defs.specs.Recording.{Recording}
use Rattle.w4_commands.specs.Scene.{scene_side}
use Rattle.w4_commands.specs.Wave.{side_sound}
use Rattle.w4_commands.proofs.wave.write_wave.Goals as goal

pub returns-clause-out : goal.returns-clause-out
returns-clause-out g c =
    subst (λ (side : Side). ForSome (side_sound side)
    (λ text. Written (g.H.House.world c.args.house.now) (g.H.House.world c.write_sound-end.new.house)
    c.write_sound-end.result text))
    (ap (scene_side c.of_recording-scene.result) (c.as_slice-inputs.ensures.value
    ∙ ap (λ (r : Recording). r.frames) c.recording.view_is) ∙ c.of_recording-scene.ensures)
    c.write_sound-end.ensures.out
