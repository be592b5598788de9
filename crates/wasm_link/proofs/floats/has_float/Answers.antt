use Rattle.std.proofs.Common.{◌∙◌}
use Rattle.wasm_link.proofs.FloatLaws.{expression_floats}
use Rattle.wasm_link.proofs.floats.has_float.Goals as goal

pub returns : goal.returns
returns c = c.any.ensures ∙ expression_floats _ _ c.ops.ensures.value c.ops.ensures.proper
