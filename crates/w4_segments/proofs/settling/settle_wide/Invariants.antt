use Rattle.w4_segments.proofs.settling.settle_wide.Given as goal

abbrev pub ghosts-settle_alone : goal.ghosts-settle_alone
ghosts-settle_alone g a = record { name = a.blank.name; parts = a.blank.parts }
