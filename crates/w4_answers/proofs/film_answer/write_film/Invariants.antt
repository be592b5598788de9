use Rattle.std.specs.Prelude.{option_map}
use Rattle.w4_defs.specs.World.{LeavesWriting}
use Rattle.w4_segments.specs.FilmPieces.{IsFilming, images_left, pieces_left}
use Rattle.w4_answers.specs.FilmAnswer.{images_in}
use Rattle.w4_answers.proofs.WritingLaws.{OwesThere}
use Rattle.w4_answers.proofs.film_answer.write_film.Given as goal

-- what was written so far and what is left of the film make the whole
abbrev pub invariant-loop-image_bytes : goal.invariant-loop-image_bytes
invariant-loop-image_bytes g l =
    OwesThere (g.H.House.world l.fn.house) (g.H.House.world l.house) (option_map (images_in g.S.Shape.form)
    (images_left l.film l.editor))
    (option_map (images_in g.S.Shape.form) (images_left l.fn.film l.editor))
    × IsFilming l.film l.editor
    × LeavesWriting (g.H.House.world l.fn.house) (g.H.House.world l.house)

abbrev pub decreases-loop-image_bytes : goal.decreases-loop-image_bytes
decreases-loop-image_bytes g l = pieces_left l.film l.editor
