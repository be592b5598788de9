use Rattle.std.proofs.Common.{◌≡◌, drop}
use Rattle.std.specs.Prelude.{position}
use Rattle.std.specs.List.{position_from}
use Rattle.wasm_link.proofs.condition.first.Given as goal

abbrev pub invariant-loop-i : goal.invariant-loop-i
invariant-loop-i g l = position_from (g.C.Condition.is_met l.condition) l.i (drop l.i l.items)
    ≡ position (g.C.Condition.is_met l.condition) l.items
