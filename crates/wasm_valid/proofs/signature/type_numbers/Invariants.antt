use Rattle.std.proofs.Common.{◌≡◌, map, take}
use Rattle.wasm_valid.specs.Calls.{number_of_type}
use Rattle.wasm_valid.proofs.signature.type_numbers.Given as goal

abbrev pub invariant-loop-i : goal.invariant-loop-i
invariant-loop-i l = l.numbers.items ≡ map (number_of_type l.types) (take l.i l.types)
