use Rattle.w4_commands.proofs.edit.run_edit.Given as goal

-- a ledger of its own, since nothing counts these frames
abbrev pub ghosts-carry_out : goal.ghosts-carry_out
ghosts-carry_out g a = record { name = a.blank.name; parts = a.blank.parts }
