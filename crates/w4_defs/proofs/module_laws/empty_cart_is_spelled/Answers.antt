use Rattle.w4_defs.proofs.EmptyCartValid.{empty_cart_spelled}
use Rattle.w4_defs.proofs.module_laws.empty_cart_is_spelled.Goals as goal

pub returns : goal.returns
returns c = empty_cart_spelled
