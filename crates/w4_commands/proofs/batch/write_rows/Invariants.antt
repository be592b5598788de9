use Rattle.std.proofs.Common.{Some, map, string_bytes}
use Rattle.w4_defs.specs.World.{LeavesWriting}
use Rattle.w4_defs.specs.BatchRows.{rows_text}
use Rattle.w4_answers.proofs.WritingLaws.{OwesThere}
use Rattle.w4_commands.proofs.BatchLaws.{lines_from}
use Rattle.w4_commands.proofs.batch.write_rows.Given as goal

-- what was written so far and the lines that are left make the whole
abbrev pub invariant-loop-i : goal.invariant-loop-i
invariant-loop-i g l =
    let names = map string_bytes l.names in
    let rows = map (λ row. Some row) l.rows in
    OwesThere (g.H.House.world l.fn.house) (g.H.House.world l.house) (lines_from names rows l.i)
    (rows_text names rows)
    × LeavesWriting (g.H.House.world l.fn.house) (g.H.House.world l.house)
