use Rattle.std.proofs.Common.{◌≡◌, ◌+◌, drop}
use Rattle.std.specs.Prelude.{nat_lt}
use Rattle.w4_defs.specs.Lookup.{local_count}
use Rattle.wasm_link.proofs.locals.exceeds.Given as goal

abbrev pub invariant-loop-i : goal.invariant-loop-i
invariant-loop-i l =
    nat_lt l.left (local_count (drop l.i l.runs)) ≡ nat_lt 1024 (l.params + local_count l.runs)
