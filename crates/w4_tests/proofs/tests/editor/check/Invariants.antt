use Rattle.w4_tests.proofs.tests.editor.check.Given as goal

-- a ledger of its own, since nothing counts these frames
abbrev pub ghosts-check_lent : goal.ghosts-check_lent
ghosts-check_lent g a = record { name = a.blank.name; parts = a.blank.parts }
