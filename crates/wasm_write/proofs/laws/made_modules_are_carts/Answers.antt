use Rattle.wasm_write.proofs.MadeFits.{made_modules_are_carts}
use Rattle.wasm_write.proofs.laws.made_modules_are_carts.Goals as goal

pub returns : goal.returns
returns c = made_modules_are_carts
