-- The records of a scene's run, and its sound.
use Rattle.std.specs.Prelude.{ℕ, ◌+◌, List, ◌++◌, length, map, Option, option_map}
use Rattle.std.specs.List.{range_with_len}
use Rattle.w4_defs.specs.declared.console.Input.{Input}
use Rattle.w4_defs.specs.AllThere.{all_some}
use Rattle.w4_defs.specs.Comparison.{Side}
use Rattle.w4_defs.specs.Run.{run}
use Rattle.w4_defs.specs.Sound.{samples, wav_header}
use Rattle.w4_defs.specs.State.{FrameRecord, Moment}
use Rattle.w4_commands.specs.declared.scene.Scene.{Scene}
use Rattle.w4_commands.specs.Scene.{scene_setup}

-- what the frame made that leads to a place of a scene's run
abbrev pub scene_record : Scene → List Input → ℕ → Option FrameRecord
scene_record scene inputs place =
    option_map (λ (m : Moment). m.frame_record) (run (scene_setup scene) scene.disk.now inputs place)

-- and to so many places, from place 0 on
abbrev pub scene_records : Scene → List Input → ℕ → Option (List FrameRecord)
scene_records scene inputs places = all_some (map (scene_record scene inputs) (range_with_len 0 places))

-- what is written of a run: the header and the samples of its places
abbrev pub side_sound : Side → Option (List ℕ)
side_sound side =
    let places = length side.inputs + 1 in
    option_map (λ records. wav_header places ++ samples records)
    (all_some (map (λ place. option_map (λ (moment : Moment). moment.frame_record)
    (run side.setup side.disk side.inputs place)) (range_with_len 0 places)))
