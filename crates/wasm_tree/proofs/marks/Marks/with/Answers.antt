use Rattle.std.proofs.Common.{arith, ◌++◌, ◌∷◌, []}
use Rattle.wasm_tree.proofs.PoolLaws.{pool_shown, pools, one_more_mark}
use Rattle.wasm_tree.proofs.marks.Marks.with.Goals as goal

pub invariant_of-result : goal.invariant_of-result
invariant_of-result c =
    let h =
    one_more_mark _ c.push-2.new.self.items _ c.push.new.self.items _ c.extend_from_slice.new.self.items
    c.args.labels.now c.args.op c.len.result c.args.self
    (pool_shown _ _ _ c.args.self c.self.invariant c.self.view_is)
    c.in_ok-push-2.ensures.items c.in_ok-extend_from_slice.ensures.items
    (omega (arith, c.len.ensures, c.extend_from_slice.new.self.ok)) c.in_ok-push.ensures.items in
    (c.args.self ++ (c.args.op, c.args.labels.now) ∷ [], h.0, h.1, h.2)

pub returns : goal.returns
returns c =
    let h =
    one_more_mark _ c.push-2.new.self.items _ c.push.new.self.items _ c.extend_from_slice.new.self.items
    c.args.labels.now c.args.op c.len.result c.args.self
    (pool_shown _ _ _ c.args.self c.self.invariant c.self.view_is)
    c.in_ok-push-2.ensures.items c.in_ok-extend_from_slice.ensures.items
    (omega (arith, c.len.ensures, c.extend_from_slice.new.self.ok)) c.in_ok-push.ensures.items in
    pools _ _ _ (c.args.self ++ (c.args.op, c.args.labels.now) ∷ []) h.0 h.1 h.2
