use Rattle.wasm_read.proofs.ModuleLaws.{read_exactly}
use Rattle.wasm_read.proofs.module.read_module.Goals as goal

pub returns : goal.returns
returns c = read_exactly c.args.bytes.now c.module_at.result c.module_at.ensures
