-- The zeros above the highest set digit: the width less the number of binary digits.
use Rattle.std.proofs.Common.{◌≡◌, ℕ, zero, suc, ◌-◌, ◌/◌, refl, arith}
use lib.Count.{count_leading_zeros}
use Rattle.w4_defs.specs.Integers.{binary_digits}

pub leading_zeros : (w n : ℕ) → count_leading_zeros w n ≡ w - binary_digits w n
unfolding count_leading_zeros binary_digits
leading_zeros zero n = refl
leading_zeros (suc w) zero = omega arith
leading_zeros (suc w) (suc n) = omega (arith, leading_zeros w (suc n / 2))
