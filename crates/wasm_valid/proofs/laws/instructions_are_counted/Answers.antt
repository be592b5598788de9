use Rattle.wasm_valid.proofs.InstructionLaws.{instructions_are_counted}
use Rattle.wasm_valid.proofs.laws.instructions_are_counted.Goals as goal

pub returns : goal.returns
returns c = instructions_are_counted
