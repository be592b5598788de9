-- A truth value as a number.
use Rattle.std.proofs.Common.{◌≡◌, ℕ, Bool, true, false, cond}
use mir.Val.{bool_byte}

pub bit_of : (b : Bool) (r : ℕ) → r ≡ bool_byte b → r ≡ cond b 1 0
bit_of true r e = e
bit_of false r e = e
