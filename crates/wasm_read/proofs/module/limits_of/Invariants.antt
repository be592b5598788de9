use Rattle.std.proofs.Common.{◌≡◌, take}
use Rattle.wasm_read.proofs.module.limits_of.Given as goal

abbrev pub invariant-loop-table : goal.invariant-loop-table
invariant-loop-table l = l.limits.items ≡ take l.table-index l.tables
