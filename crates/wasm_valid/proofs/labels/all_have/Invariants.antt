use Rattle.std.proofs.Common.{◌≡◌, drop}
use Rattle.wasm_valid.specs.ControlStack.{all_have}
use Rattle.wasm_valid.specs.Pass.{label_types}
use Rattle.wasm_valid.proofs.labels.all_have.Given as goal

abbrev pub invariant-loop-i : goal.invariant-loop-i
invariant-loop-i l =
    all_have l.label (label_types l.control) (drop l.i l.labels) ≡ all_have l.label (label_types l.control)
    l.labels
