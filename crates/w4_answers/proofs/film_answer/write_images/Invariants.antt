use Rattle.std.proofs.Common.{drop, flat_map}
use Rattle.w4_defs.specs.Image.{image}
use Rattle.w4_defs.specs.World.{LeavesWriting}
use Rattle.w4_answers.proofs.WritingLaws.{Owes}
use Rattle.w4_answers.proofs.film_answer.write_images.Given as goal

-- what was written so far and the images of the screens that are left make the whole
abbrev pub invariant-loop-screen : goal.invariant-loop-screen
invariant-loop-screen g l =
    Owes (g.H.House.world l.fn.house) (g.H.House.world l.house)
    (flat_map (λ screen. g.S.Shape.form (image screen)) (drop l.screen-index l.screens))
    (flat_map (λ screen. g.S.Shape.form (image screen)) l.screens)
    × LeavesWriting (g.H.House.world l.fn.house) (g.H.House.world l.house)
