use Rattle.w4_segments.proofs.film_pieces.FilmPieces.begin.Given as goal

abbrev pub ghosts-begin_there : goal.ghosts-begin_there
ghosts-begin_there g a = record { name = a.blank.name; parts = a.blank.parts }
