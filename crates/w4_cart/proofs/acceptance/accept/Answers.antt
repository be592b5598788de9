use Rattle.std.proofs.Common.{subst, sym}
use Rattle.w4_defs.specs.Cart.{IsCart}
use Rattle.w4_cart.proofs.acceptance.accept.Goals as goal

pub returns-in-Ok-clause-cart : goal.returns-in-Ok-clause-cart
returns-in-Ok-clause-cart c =
    subst (IsCart c.args.bytes.now) (sym c.in-Ok.ensures) c.in_ok-valid.ensures.cart
