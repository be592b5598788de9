use Rattle.std.specs.Prelude.{refl}
use Rattle.std.proofs.Common.{arith}
use Rattle.w4_defs.proofs.EmptyCartValid.{empty_cart_spelled, empty_module_valid}
use Rattle.w4_defs.proofs.module_laws.empty_cart_is_cart.Goals as goal

pub returns : goal.returns
returns c = (omega arith, empty_cart_spelled, refl, empty_module_valid)
