use Rattle.std.proofs.Common.{◌≡◌, ◌-◌, length, take}
use Rattle.w4_defs.specs.AbstractStack.{taken}
use Rattle.wasm_valid.specs.ControlStack.{at_top}
use Rattle.wasm_valid.proofs.control_stack.ControlStack.take_all.Given as goal

abbrev pub invariant-loop-i : goal.invariant-loop-i
invariant-loop-i l =
    at_top (taken (take (length l.operands - l.i) l.operands)) l.self ≡ at_top (taken l.operands) l.fn.self
