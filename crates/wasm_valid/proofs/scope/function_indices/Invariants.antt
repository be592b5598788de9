use Rattle.std.proofs.Common.{◌≡◌, ◌++◌, drop}
use Rattle.std.specs.List.{filter_map}
use Rattle.w4_defs.specs.Lookup.{imported_function}
use Rattle.wasm_valid.proofs.scope.function_indices.Given as goal

abbrev pub invariant-loop-i : goal.invariant-loop-i
invariant-loop-i l =
    l.indices.items ++ filter_map (λ i. imported_function i.kind) (drop l.i l.imports)
    ≡ filter_map (λ i. imported_function i.kind) l.imports
