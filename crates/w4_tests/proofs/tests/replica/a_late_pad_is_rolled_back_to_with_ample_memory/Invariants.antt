use Rattle.w4_tests.proofs.tests.replica.a_late_pad_is_rolled_back_to_with_ample_memory.Given as goal

-- a ledger of its own, since nothing counts these frames
abbrev pub ghosts-roll_back : goal.ghosts-roll_back
ghosts-roll_back g a = record { name = a.blank.name; parts = a.blank.parts }
