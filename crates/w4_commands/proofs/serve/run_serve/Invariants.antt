use Rattle.w4_commands.proofs.serve.run_serve.Given as goal

-- a ledger of its own, since nothing counts these frames
abbrev pub ghosts-serve_run : goal.ghosts-serve_run
ghosts-serve_run g a = record { name = a.blank.name; parts = a.blank.parts }
