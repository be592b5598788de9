use Rattle.std.proofs.Common.{refl}
use Rattle.wasm_tree.proofs.ShiftLaws.{one_more}
use Rattle.wasm_tree.proofs.bodies.appended.Goals as goal

pub loop-position-preserved : goal.loop-position-preserved
loop-position-preserved c =
    one_more c.len-start.result c.loop-position.position _ c.args.body.now c.args.marks c.loop-position.marks
    c.in_ok-marks.marks c.op.result c.in_ok-op.op c.labels.result.now refl
    c.op.ensures c.labels.ensures c.in_ok-op.ensures c.loop-position.invariant c.in_ok-marks.ensures
