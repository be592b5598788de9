use Rattle.std.proofs.Common.{arith, ap, ◌∙◌, get_or}
use Rattle.wasm_tree.proofs.PoolLaws.{pool_shown, length_shown, operation_of_mark}
use Rattle.wasm_tree.proofs.marks.Marks.op.Goals as goal

pub index-requires : goal.index-requires
index-requires c =
    let ms = c.args.self.now in
    omega (
      arith,
      c.requires,
      c.self.inside.ops.ok,
      length_shown _ ms (pool_shown _ _ _ ms c.self.invariant c.self.view_is).0,
    )

pub returns : goal.returns
returns c =
    let ms = c.args.self.now in
    operation_of_mark ms c.args.position c.index.result.now c.requires
    (c.index.ensures ∙ ap (λ xs. get_or xs c.args.position c.index.result.now)
    (pool_shown _ _ _ ms c.self.invariant c.self.view_is).0)
