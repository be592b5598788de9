use Rattle.std.proofs.Common.{◌≡◌, drop, length, map, string_bytes}
use Rattle.w4_defs.specs.World.{LeavesReading}
use Rattle.w4_commands.proofs.BatchListLaws.{StillOwes}
use Rattle.w4_commands.proofs.batch.load_listed.Given as goal

-- what was read and what the names that are left come to make the whole
abbrev pub invariant-loop-name : goal.invariant-loop-name
invariant-loop-name g l =
    let all = map string_bytes l.names in
    StillOwes (g.H.House.world l.fn.house) (map (λ bytes. bytes.items) l.recordings.items)
    (drop l.name-index all) all
    × (length l.recordings.items ≡ l.name-index)
    × LeavesReading (g.H.House.world l.fn.house) (g.H.House.world l.house)
