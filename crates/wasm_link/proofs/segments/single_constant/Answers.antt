use Rattle.std.proofs.Common.{◌∙◌, refl}
use Rattle.wasm_link.proofs.SegmentLaws.{two_ops}
use Rattle.wasm_link.proofs.segments.single_constant.Goals as goal

pub returns-then-ops-eq2 : goal.returns-then-ops-eq2
returns-then-ops-eq2 c = c.constant.ensures ∙ two_ops c.args.expression.now c.ops-ops.result.now _ _
    c.ops-ops.ensures.value c.if-ops-eq2.true refl
