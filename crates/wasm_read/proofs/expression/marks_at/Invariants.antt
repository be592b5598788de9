use Rattle.std.proofs.Common.{◌≡◌, ◌≤◌, ◌+◌, ◌-◌, length}
use Rattle.wasm_read.specs.Combine.{after_items}
use Rattle.wasm_read.specs.ReadExpression.{marks_at}
use Rattle.wasm_read.proofs.expression.marks_at.Given as goal

abbrev pub invariant-loop : goal.invariant-loop
invariant-loop l = record {
  few : l.depth ≤ l.counter + 1;
  more : after_items l.marks (marks_at (length l.bytes - l.counter) l.depth l.rest) ≡ marks_at
      (length l.bytes) 1 l.bytes;
}
