use Rattle.std.proofs.Common.{◌≡◌, drop}
use Rattle.std.specs.List.{list_any}
use Rattle.wasm_link.proofs.condition.any.Given as goal

abbrev pub invariant-loop-i : goal.invariant-loop-i
invariant-loop-i g l = list_any (g.C.Condition.is_met l.condition) (drop l.i l.items)
    ≡ list_any (g.C.Condition.is_met l.condition) l.items
