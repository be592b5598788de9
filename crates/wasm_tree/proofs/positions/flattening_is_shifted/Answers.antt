use Rattle.wasm_tree.proofs.ShiftLaws.{flattening_shifted}
use Rattle.wasm_tree.proofs.positions.flattening_is_shifted.Goals as goal

pub returns : goal.returns
returns c = flattening_shifted
