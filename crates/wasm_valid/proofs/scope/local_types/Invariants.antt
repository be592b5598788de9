use Rattle.std.proofs.Common.{◌≡◌, ◌++◌, drop}
use Rattle.w4_defs.specs.Lookup.{local_types}
use Rattle.wasm_valid.proofs.scope.local_types.Given as goal

abbrev pub invariant-loop-i : goal.invariant-loop-i
invariant-loop-i l = l.operands.items ++ local_types (drop l.i l.runs) ≡ local_types l.runs
