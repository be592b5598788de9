use Rattle.std.proofs.Common.{◌≡◌, ◌+◌, drop}
use Rattle.wasm_valid.specs.Calls.{number_of_type}
use Rattle.wasm_valid.proofs.signature.number_of_type.Given as goal

abbrev pub invariant-loop-i : goal.invariant-loop-i
invariant-loop-i l = number_of_type (drop l.i l.types) l.signature + l.i ≡ number_of_type l.types l.signature
