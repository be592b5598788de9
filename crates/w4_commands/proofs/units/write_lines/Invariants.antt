use Rattle.std.proofs.Common.{◌-◌, ◌≤◌, length}
use Rattle.w4_defs.specs.PlaceTexts.{as_it_stands, place_texts}
use Rattle.w4_defs.specs.Units.{units_at, units_text}
use Rattle.w4_defs.specs.World.{LeavesWriting}
use Rattle.w4_commands.specs.Stage.{IsAtPlace}
use Rattle.w4_commands.specs.Scene.{scene_setup}
use Rattle.w4_answers.proofs.WritingLaws.{OwesThere}
use Rattle.w4_commands.proofs.units.write_lines.Given as goal

-- what was written so far and the lines of the frames that are left make the whole
abbrev pub invariant-loop-place : goal.invariant-loop-place
invariant-loop-place g l =
    OwesThere (g.H.House.world l.fn.house) (g.H.House.world l.house)
    (place_texts (units_at as_it_stands (scene_setup l.scene) l.scene.disk.now l.inputs) l.place
    (length l.inputs - l.place))
    (units_text (scene_setup l.scene) l.scene.disk.now l.inputs)
    × (l.place ≤ length l.inputs)
    × IsAtPlace l.scene l.inputs l.place l.stage
    × LeavesWriting (g.H.House.world l.fn.house) (g.H.House.world l.house)
