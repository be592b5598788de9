use Rattle.std.proofs.Common.{◌≡◌, take}
use Rattle.w4_defs.specs.AbstractStack.{given}
use Rattle.wasm_valid.specs.ControlStack.{on_top}
use Rattle.wasm_valid.proofs.control_stack.ControlStack.give_all.Given as goal

abbrev pub invariant-loop-i : goal.invariant-loop-i
invariant-loop-i l = l.self ≡ on_top (given (take l.i l.operands)) l.fn.self
