use Rattle.std.proofs.Common.{◌≡◌, ◌++◌, length}
use Rattle.w4_defs.specs.View.{expression_of}
use Rattle.w4_defs.specs.EncodeInstruction.{expression_bytes}
use Rattle.wasm_write.specs.OpenLists.{open_bytes}
use Rattle.wasm_write.proofs.expression.expression.Given as goal

abbrev pub invariant-loop-rest : goal.invariant-loop-rest
invariant-loop-rest l =
    l.out.items ++ open_bytes l.lists.items ≡ l.initial.out.items ++ expression_bytes (expression_of l.list)

abbrev pub decreases-loop-rest : goal.decreases-loop-rest
decreases-loop-rest l = length (open_bytes l.lists.items)
