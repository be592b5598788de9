-- Why bytes are no cart, as the refusal of a command.
use Rattle.w4_defs.specs.declared.status.Refusal.{Refusal}
use Rattle.w4_defs.specs.declared.status.Refusal.TheVariants as refusal
use Rattle.w4_cart.specs.declared.refusal.CartRefusal.{CartRefusal}
use Rattle.w4_cart.specs.declared.refusal.CartRefusal.TheVariants.{Kind, OutOfMemory}

abbrev pub cart_refusal : CartRefusal → Refusal
cart_refusal (Kind kind) = refusal.CartRefused kind
cart_refusal OutOfMemory = refusal.OutOfMemory
