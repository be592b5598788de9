use Rattle.wasm_valid.proofs.ConstantLaws.{constant_decided}
use Rattle.wasm_valid.proofs.constant.is_constant.Goals as goal

pub returns : goal.returns
returns c = constant_decided _ _ _ _ _ c.ops.ensures.value c.only_constant.ensures c.is_of.ensures
