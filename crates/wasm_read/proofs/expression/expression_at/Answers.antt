use Rattle.std.proofs.Common.{length}
use Rattle.wasm_read.proofs.ExpressionLaws.{matched_flat}
use Rattle.wasm_read.proofs.expression.expression_at.Goals as goal

pub new-requires : goal.new-requires
new-requires c = matched_flat (length c.args.bytes.now) 1 c.args.bytes.now c.in_ok-marks.marks
    c.in_ok-marks.rest.now c.in_ok-marks-2.marks c.in_ok-marks.ensures c.in_ok-marks-2.ensures
