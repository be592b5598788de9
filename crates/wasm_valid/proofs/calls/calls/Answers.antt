use Rattle.w4_defs.specs.Program.{imported_callees}
use Rattle.wasm_valid.proofs.CallLaws.{own_more}
use Rattle.wasm_valid.proofs.calls.calls.Goals as goal

pub loop-func-preserved : goal.loop-func-preserved
loop-func-preserved c =
    let m = c.args.code.now in
    own_more m (imported_callees m.types m.imports) c.loop-func.func c.own_call.result
    c.loop-func.calls.items _ c.own_call.ensures c.in_ok-push.ensures.items c.loop-func.invariant
