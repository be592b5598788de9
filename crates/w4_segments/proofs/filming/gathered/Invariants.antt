use Rattle.std.proofs.Common.{◌≡◌, Some}
use Rattle.w4_defs.specs.AllThere.{joined}
use Rattle.w4_segments.specs.FilmPieces.{IsFilming, images_left, pieces_left}
use Rattle.w4_segments.proofs.filming.gathered.Given as goal

abbrev pub invariant-loop-all : goal.invariant-loop-all
invariant-loop-all g l =
    (joined (Some l.all.items) (images_left l.film l.editor) ≡ images_left l.fn.film l.editor)
    × IsFilming l.film l.editor

abbrev pub decreases-loop-all : goal.decreases-loop-all
decreases-loop-all g l = pieces_left l.film l.editor
