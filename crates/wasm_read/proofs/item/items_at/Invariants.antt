use Rattle.std.proofs.Common.{◌≡◌, ◌-◌}
use Rattle.wasm_read.specs.Combine.{items_at, after_items}
use Rattle.wasm_read.proofs.item.items_at.Given as goal

abbrev pub invariant-loop : goal.invariant-loop
invariant-loop g l = after_items l.items.items (items_at g.T.Item.reads (l.count - l.counter) l.rest)
    ≡ items_at g.T.Item.reads l.count l.bytes
