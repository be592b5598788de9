use Rattle.wasm_write.proofs.ModuleLaws.{module_encodes}
use Rattle.wasm_write.proofs.laws.modules_are_encoded.Goals as goal

pub returns : goal.returns
returns c = module_encodes
