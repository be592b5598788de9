use Rattle.std.proofs.Common.{arith}
use Rattle.wasm_tree.proofs.PoolLaws.{pool_shown, length_shown}
use Rattle.wasm_tree.proofs.marks.Marks.len.Goals as goal

pub returns : goal.returns
returns c =
    let ms = c.args.self.now in
    omega (
      arith,
      c.len.ensures,
      c.self.inside.ops.ok,
      length_shown _ ms (pool_shown _ _ _ ms c.self.invariant c.self.view_is).0,
    )
