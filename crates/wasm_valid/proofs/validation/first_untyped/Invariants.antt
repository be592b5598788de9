use Rattle.wasm_valid.specs.Untyped.{AreTypedBefore}
use Rattle.wasm_valid.proofs.validation.first_untyped.Given as goal

abbrev pub invariant-loop-func : goal.invariant-loop-func
invariant-loop-func l = AreTypedBefore l.code l.func
