use Rattle.std.proofs.Common.{◌∙◌}
use Rattle.wasm_tree.proofs.PoolLaws.{pool_shown}
use Rattle.wasm_tree.proofs.marks.Marks.pool.Goals as goal

pub returns : goal.returns
returns c = c.deref.ensures.value ∙ (pool_shown _ _ _ _ c.self.invariant c.self.view_is).2
