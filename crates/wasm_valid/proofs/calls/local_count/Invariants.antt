use Rattle.std.proofs.Common.{◌≡◌, ◌+◌, drop}
use Rattle.w4_defs.specs.Lookup.{local_count}
use Rattle.wasm_valid.proofs.calls.local_count.Given as goal

abbrev pub invariant-loop-i : goal.invariant-loop-i
invariant-loop-i l = l.count + local_count (drop l.i l.runs) ≡ local_count l.runs
