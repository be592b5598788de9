-- The runs were compared up to the place where both stages stand.
use Rattle.std.proofs.Common.{◌≤◌}
use Rattle.std.specs.Prelude.{length, min}
use Rattle.w4_commands.specs.Compare.{ComparedTo}
use Rattle.w4_commands.specs.Scene.{scene_side}
use Rattle.w4_commands.specs.Stage.{IsAtPlace}
use Rattle.w4_commands.proofs.compare.compare_stages.Given as goal

abbrev pub invariant-loop-place : goal.invariant-loop-place
invariant-loop-place l =
    ComparedTo (scene_side l.scene l.inputs) (scene_side l.other_scene l.other_inputs) l.place l.found
    × (l.place ≤ min (length l.inputs) (length l.other_inputs))
    × IsAtPlace l.scene l.inputs l.place l.one
    × IsAtPlace l.other_scene l.other_inputs l.place l.other
