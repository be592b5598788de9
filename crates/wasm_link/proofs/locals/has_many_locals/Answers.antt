use Rattle.std.proofs.Common.{arith, refl, ap, length}
use Rattle.std.specs.Prelude.{zip}
use Rattle.w4_defs.specs.Profile.{has_many_locals}
use Rattle.wasm_link.proofs.ListSteps.{flag_found, flag_next, flag_end, zip_length}
use Rattle.wasm_link.proofs.locals.has_many_locals.Goals as goal

pub returns-then-is_large : goal.returns-then-is_large
returns-then-is_large c =
    flag_found (has_many_locals c.args.code.now) (zip c.args.code.now.functions c.args.code.now.bodies)
    c.loop-func.func c.is_large.result c.is_large.ensures c.if-is_large.true c.loop-func.invariant

pub loop-func-preserved : goal.loop-func-preserved
loop-func-preserved c =
    flag_next (has_many_locals c.args.code.now) (zip c.args.code.now.functions c.args.code.now.bodies)
    c.loop-func.func _ c.is_large.result refl c.is_large.ensures c.if-is_large.false c.loop-func.invariant

pub returns : goal.returns
returns c =
    flag_end (has_many_locals c.args.code.now) (zip c.args.code.now.functions c.args.code.now.bodies)
    c.loop-func.func
    (omega (
      arith,
      zip_length c.args.code.now.functions c.args.code.now.bodies,
      c.loop-func-test.false,
      ap length c.functions-func-end.ensures.value,
    )) c.loop-func.invariant
