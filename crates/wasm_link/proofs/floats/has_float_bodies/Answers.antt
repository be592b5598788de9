use Rattle.std.proofs.Common.{refl}
use Rattle.w4_defs.specs.Floats.{function_has_float}
use Rattle.wasm_link.proofs.ListSteps.{flag_found, flag_next}
use Rattle.wasm_link.proofs.floats.has_float_bodies.Goals as goal

pub returns-then-has_float_body : goal.returns-then-has_float_body
returns-then-has_float_body c =
    flag_found function_has_float c.args.code.now.bodies c.loop-func.func c.has_float_body.result
    c.has_float_body.ensures c.if-has_float_body.true c.loop-func.invariant

pub loop-func-preserved : goal.loop-func-preserved
loop-func-preserved c =
    flag_next function_has_float c.args.code.now.bodies c.loop-func.func _ c.has_float_body.result refl
    c.has_float_body.ensures c.if-has_float_body.false c.loop-func.invariant
