use Rattle.std.proofs.Common.{◌+◌, ◌-◌}
use Rattle.w4_defs.specs.World.{LeavesWriting}
use Rattle.w4_answers.specs.Desk.{OnlyShows, text_by}
use Rattle.w4_defs.specs.PlaceTexts.{place_texts}
use Rattle.w4_answers.specs.RangeAnswer.{lead_of}
use Rattle.w4_answers.proofs.DeskLaws.{HasRun}
use Rattle.w4_answers.proofs.WritingLaws.{OwesThere}
use Rattle.w4_answers.proofs.range_answer.write_all.Given as goal

-- what was written so far and the texts of the places that are left make the whole
abbrev pub invariant-loop-place : goal.invariant-loop-place
invariant-loop-place g l =
    let text = text_by g.S.Shape.form l.fn.desk.counted.editor l.wanted in
    OwesThere (g.H.House.world l.fn.house) (g.H.House.world l.house)
    (place_texts text l.place (l.b + 1 - l.place)) (place_texts text l.a (l.b + 1 - l.a))
    × OnlyShows l.fn.desk.counted.editor l.desk.counted.editor
    × LeavesWriting (g.H.House.world l.fn.house) (g.H.House.world l.house)
    × HasRun (lead_of l.wanted) l.a (l.b + 1) l.place
    l.fn.desk.counted.steps l.desk.counted.steps l.fn.desk.counted.editor l.desk.counted.editor
