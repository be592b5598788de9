use Rattle.wasm_read.proofs.number.+unsigned_at.Given as goal

abbrev pub decreases-unsigned_at : goal.decreases-unsigned_at
decreases-unsigned_at l = l.width
