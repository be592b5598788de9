use Rattle.wasm_valid.proofs.BodyLaws.{stack_decides_bodies}
use Rattle.wasm_valid.proofs.laws.stack_decides_bodies.Goals as goal

pub returns : goal.returns
returns c = stack_decides_bodies
