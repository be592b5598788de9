use Rattle.std.proofs.Common.{◌≡◌, drop}
use Rattle.w4_defs.specs.EntryPoints.{exported_function_in}
use Rattle.wasm_valid.proofs.cart.exported.Given as goal

abbrev pub invariant-loop-i : goal.invariant-loop-i
invariant-loop-i l = exported_function_in (drop l.i l.exports) l.name ≡ exported_function_in l.exports l.name
