use Rattle.std.proofs.Common.{◌≡◌, drop, length}
use Rattle.w4_defs.specs.ValueTypes.{same_types}
use Rattle.wasm_valid.proofs.signature.same_types.Given as goal

abbrev pub invariant-loop-i : goal.invariant-loop-i
invariant-loop-i l = record {
  rest : same_types (drop l.i l.first) (drop l.i l.second) ≡ same_types l.first l.second;
  as_many_bodies : length l.first ≡ length l.second;
}
