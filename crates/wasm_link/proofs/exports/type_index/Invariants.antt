use Rattle.std.proofs.Common.{◌≡◌, drop}
use Rattle.std.specs.Prelude.{slice_get}
use Rattle.w4_defs.specs.Lookup.{function_indices}
use Rattle.wasm_link.proofs.ListSteps.{index_from}
use Rattle.wasm_link.proofs.exports.type_index.Given as goal

abbrev pub invariant-loop-i : goal.invariant-loop-i
invariant-loop-i l =
    index_from (drop l.i l.imports) l.code.functions l.left ≡ slice_get (function_indices l.code) l.func
