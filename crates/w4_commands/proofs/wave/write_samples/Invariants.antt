use Rattle.std.proofs.Common.{◌+◌, ◌-◌, ◌≤◌, length}
use Rattle.w4_defs.specs.Sound.{first_wave}
use Rattle.w4_defs.specs.World.{LeavesWriting}
use Rattle.w4_commands.specs.Stage.{IsAtPlace}
use Rattle.w4_commands.specs.Wave.{scene_record}
use Rattle.w4_answers.proofs.WritingLaws.{OwesThere}
use Rattle.w4_commands.proofs.WaveLaws.{samples_at}
use Rattle.w4_commands.proofs.wave.write_samples.Given as goal

-- what was written so far and the samples of the places that are left make the whole
abbrev pub invariant-loop-place : goal.invariant-loop-place
invariant-loop-place g l =
    let records = scene_record l.scene l.inputs in
    OwesThere (g.H.House.world l.fn.house) (g.H.House.world l.house)
    (samples_at records l.wave (l.place + 1) (length l.inputs - l.place))
    (samples_at records first_wave 0 (length l.inputs + 1))
    × (l.place ≤ length l.inputs)
    × IsAtPlace l.scene l.inputs l.place l.stage
    × LeavesWriting (g.H.House.world l.fn.house) (g.H.House.world l.house)
