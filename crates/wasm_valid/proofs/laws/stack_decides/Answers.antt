use Rattle.wasm_valid.proofs.AbstractStackLaws.{stack_decides, stack_decides_from}
use Rattle.wasm_valid.proofs.laws.stack_decides.Goals as goal

pub returns-clause-from_nothing : goal.returns-clause-from_nothing
returns-clause-from_nothing c = stack_decides

pub returns-clause-from_any : goal.returns-clause-from_any
returns-clause-from_any c = stack_decides_from
