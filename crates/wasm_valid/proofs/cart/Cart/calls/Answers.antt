use Rattle.std.proofs.Common.{sym}
use Rattle.wasm_valid.proofs.CartLaws.{kept_calls}
use Rattle.wasm_valid.proofs.cart.Cart.calls.Goals as goal

pub returns : goal.returns
returns c = kept_calls _ _ _ _ c.self.view_is (sym c.deref.ensures.value) c.self.invariant.calls
