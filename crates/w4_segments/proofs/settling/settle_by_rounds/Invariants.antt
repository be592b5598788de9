use Rattle.w4_segments.proofs.settling.settle_by_rounds.Given as goal

abbrev pub ghosts-settle : goal.ghosts-settle
ghosts-settle g a = record { name = a.blank.name; parts = a.blank.parts }
