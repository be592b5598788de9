use Rattle.std.proofs.Common.{◌+◌, ◌-◌, ◌≤◌}
use Rattle.w4_defs.specs.Run.{run}
use Rattle.w4_defs.specs.World.{LeavesWriting}
use Rattle.w4_commands.specs.Stage.{IsAtPlace}
use Rattle.w4_commands.specs.Scene.{scene_setup}
use Rattle.w4_defs.specs.PlaceTexts.{as_it_stands, place_text, place_texts}
use Rattle.w4_answers.proofs.WritingLaws.{OwesThere}
use Rattle.w4_commands.proofs.place_text.write_places.Given as goal

abbrev pub invariant-loop-place : goal.invariant-loop-place
invariant-loop-place g l =
    OwesThere (g.H.House.world l.fn.house) (g.H.House.world l.house)
    (place_texts
    (λ place.
    place_text as_it_stands l.fn.wanted.text place (run (scene_setup l.scene) l.scene.disk.now l.inputs
    place))
    (l.place + 1) (l.fn.wanted.to + 1 - (l.place + 1)))
    (place_texts
    (λ place.
    place_text as_it_stands l.fn.wanted.text place (run (scene_setup l.scene) l.scene.disk.now l.inputs
    place))
    l.fn.wanted.from (l.fn.wanted.to + 1 - l.fn.wanted.from))
    × (l.place ≤ l.fn.wanted.to)
    × IsAtPlace l.scene l.inputs l.place l.stage
    × LeavesWriting (g.H.House.world l.fn.house) (g.H.House.world l.house)
