use Rattle.std.proofs.Common.{◌≡◌, ◌++◌}
use Rattle.w4_defs.specs.EncodeNumber.{unsigned_bytes}
use Rattle.wasm_write.proofs.number.unsigned.Given as goal

abbrev pub invariant-loop-left : goal.invariant-loop-left
invariant-loop-left l = l.out.items ++ unsigned_bytes l.left ≡ l.initial.out.items ++ unsigned_bytes l.value

abbrev pub decreases-loop-left : goal.decreases-loop-left
decreases-loop-left l = l.left
