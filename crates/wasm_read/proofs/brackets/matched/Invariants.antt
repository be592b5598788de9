use Rattle.std.proofs.Common.{◌≡◌, Some, length, take, drop, reverse}
use Rattle.wasm_read.specs.ReadExpression.{marks_with_positions}
use Rattle.wasm_read.proofs.brackets.matched.Given as goal

abbrev pub invariant-loop-at : goal.invariant-loop-at
invariant-loop-at l = record {
  long : length l.marks ≡ length l.fn.marks;
  before : take l.at l.marks ≡ take l.at l.fn.marks;
  after : marks_with_positions l.at (drop l.at l.fn.marks) ≡ Some (drop l.at l.marks, reverse l.closes.items);
}
