use Rattle.w4_commands.proofs.net.answer_log.Given as goal

-- a ledger of its own, since nothing counts these frames
abbrev pub ghosts-answer_orders : goal.ghosts-answer_orders
ghosts-answer_orders g a = record { name = a.blank.name; parts = a.blank.parts }
