use Rattle.std.proofs.Common.{◌≡◌, ◌++◌, replicate}
use Rattle.wasm_valid.proofs.scope.append.Given as goal

abbrev pub invariant-loop : goal.invariant-loop
invariant-loop l = l.operands.items ≡ l.fn.operands.items ++ replicate l.counter l.run.kind
