use Rattle.std.proofs.Common.{◌≡◌, suc, ◌+◌, ◌-◌, None, ap, ◌∙◌, arith}
use Rattle.std.proofs.lemmas.Result.{err_from_is_err_and}
use Rattle.wasm_read.specs.Combine.{items_at, after_items}
use Rattle.wasm_read.proofs.LoopLaws.{refused, items_more, items_none}
use Rattle.wasm_read.proofs.item.items_at.Goals as goal

pub returns-in_err-item : goal.returns-in_err-item
returns-in_err-item g c =
    let read_item = g.T.Item.reads in
    let left : c.args.count - c.loop.counter ≡ suc (c.args.count - (c.loop.counter + 1)) = omega arith in
    let p = err_from_is_err_and c.from_residual.result c.from_residual.ensures.1 in
    rw (p.1, p.2) (refused (read_item c.loop.rest.now ≡ None)
    (items_at read_item c.args.count c.args.bytes.now ≡ None)
    (items_none read_item c.loop.items.items _ _ c.loop.rest.now _ c.loop.invariant left)
    c.in_err-item.field-0.0 c.in_err-item.ensures)

pub loop-preserved : goal.loop-preserved
loop-preserved g c =
    let read_item = g.T.Item.reads in
    let left : c.args.count - c.loop.counter ≡ suc (c.args.count - (c.loop.counter + 1)) = omega arith in
    ap (λ xs. after_items xs (items_at read_item (c.args.count - (c.loop.counter + 1))
    c.in_ok-item.after.now))
    c.in_ok-push.ensures.items
    ∙ items_more read_item c.loop.items.items c.in_ok-item.item _ _ c.loop.rest.now c.in_ok-item.after.now _
    c.loop.invariant left c.in_ok-item.ensures
