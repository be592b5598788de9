use Rattle.std.proofs.Common.{◌≡◌, ◌-◌, length}
use Rattle.wasm_read.specs.ReadSection.{ordered_at}
use Rattle.wasm_read.proofs.section.in_order.Given as goal

abbrev pub invariant-loop : goal.invariant-loop
invariant-loop l = ordered_at (length l.bytes - l.counter) l.last l.rest ≡ ordered_at (length l.bytes) 0
    l.bytes
