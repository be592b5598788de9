use Rattle.wasm_valid.proofs.PassLaws.{pass_decides_bodies}
use Rattle.wasm_valid.proofs.laws.pass_decides_bodies.Goals as goal

pub returns : goal.returns
returns c = pass_decides_bodies
