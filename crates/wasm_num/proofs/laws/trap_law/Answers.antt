-- The law, by the cases of its lemmas.
use Rattle.wasm_num.proofs.TrapCauses.{traps_exactly}
use Rattle.wasm_num.proofs.laws.trap_law.Goals as goal

pub returns : goal.returns
returns c = traps_exactly
