use Rattle.wasm_read.proofs.ModuleLaws.{at_most_one_module}
use Rattle.wasm_read.proofs.module.at_most_one.Goals as goal

pub returns : goal.returns
returns c = at_most_one_module
