use Rattle.std.proofs.Common.{◌+◌, ◌-◌}
use Rattle.w4_defs.specs.World.{LeavesWriting}
use Rattle.w4_answers.specs.UnitsAnswer.{units_by}
use Rattle.w4_answers.specs.Desk.{OnlyShows}
use Rattle.w4_defs.specs.PlaceTexts.{place_texts}
use Rattle.w4_answers.proofs.DeskLaws.{HasRun}
use Rattle.w4_answers.proofs.WritingLaws.{OwesThere}
use Rattle.w4_answers.proofs.units_answer.write_all_units.Given as goal

-- what was written so far and the lines of the frames that are left make the whole
abbrev pub invariant-loop-k : goal.invariant-loop-k
invariant-loop-k g l =
    let text = units_by g.S.Shape.form l.fn.desk.counted.editor in
    OwesThere (g.H.House.world l.fn.house) (g.H.House.world l.house)
    (place_texts text l.k (l.b - l.k)) (place_texts text l.a (l.b - l.a))
    × OnlyShows l.fn.desk.counted.editor l.desk.counted.editor
    × LeavesWriting (g.H.House.world l.fn.house) (g.H.House.world l.house)
    × HasRun 1 (l.a + 1) (l.b + 1) (l.k + 1)
    l.fn.desk.counted.steps l.desk.counted.steps l.fn.desk.counted.editor l.desk.counted.editor
