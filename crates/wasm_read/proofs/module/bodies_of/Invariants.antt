use Rattle.std.proofs.Common.{◌≡◌}
use Rattle.wasm_read.proofs.module.bodies_of.Given as goal

abbrev pub invariant-loop-body : goal.invariant-loop-body
invariant-loop-body l = l.bodies ≡ l.yielded
