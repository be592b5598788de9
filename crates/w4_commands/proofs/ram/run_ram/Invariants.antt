use Rattle.w4_commands.proofs.ram.run_ram.Given as goal

-- a ledger of its own, since nothing counts these frames
abbrev pub ghosts-answer_query : goal.ghosts-answer_query
ghosts-answer_query g a = record { name = a.blank.name; parts = a.blank.parts }
