use Rattle.std.proofs.Common.{arith, [], get_or}
use Rattle.std.specs.Prelude.{slice_set}
use Rattle.wasm_tree.proofs.PoolLaws.{pool_shown, length_shown, pools, set}
use Rattle.wasm_tree.proofs.marks.Marks.set_op.Goals as goal

pub index_mut-requires : goal.index_mut-requires
index_mut-requires c =
    let ms = c.args.self.now in
    omega (
      arith,
      c.requires,
      c.self.inside.ops.ok,
      length_shown _ ms (pool_shown _ _ _ ms c.self.invariant c.self.view_is).0,
    )

pub invariant_of-self : goal.invariant_of-self
invariant_of-self c =
    let ms = c.args.self.now in
    let h = set _ _ _ c.args.position c.args.op ms (pool_shown _ _ _ ms c.self.invariant c.self.view_is) in
    (slice_set ms c.args.position (c.args.op, (get_or ms c.args.position (c.args.op, [])).1), h.0, h.1, h.2)

pub returns : goal.returns
returns c =
    let ms = c.args.self.now in
    let h = set _ _ _ c.args.position c.args.op ms (pool_shown _ _ _ ms c.self.invariant c.self.view_is) in
    pools _ _ _ (slice_set ms c.args.position (c.args.op, (get_or ms c.args.position (c.args.op, [])).1)) h.0
    h.1
    h.2
