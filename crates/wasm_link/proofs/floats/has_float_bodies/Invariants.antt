use Rattle.std.proofs.Common.{◌≡◌, drop}
use Rattle.std.specs.List.{list_any}
use Rattle.w4_defs.specs.Floats.{function_has_float}
use Rattle.wasm_link.proofs.floats.has_float_bodies.Given as goal

abbrev pub invariant-loop-func : goal.invariant-loop-func
invariant-loop-func l = list_any function_has_float (drop l.func l.code.bodies) ≡ list_any function_has_float
    l.code.bodies
