use Rattle.wasm_read.proofs.ReserveLaws.{reserves_are_small}
use Rattle.wasm_read.proofs.laws.reserves_are_small.Goals as goal

pub returns : goal.returns
returns c = reserves_are_small
