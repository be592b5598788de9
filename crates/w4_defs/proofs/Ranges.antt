-- Each integer operation stays in its range.
use Rattle.std.proofs.Common.{◌≡◌, ℕ, zero, suc, ◌+◌, ◌-◌, ◌*◌, ◌/◌, ◌%◌, ◌^◌, ◌<◌, ◌≤◌, Bool, true, false, cond, ◌&&◌, ℤ, pos, negsuc, int_div, int_rem, nat_eq, IfOk, Result, Ok, Err, ap, sym, subst, ◌∙◌, arith}
use Rattle.std.proofs.lemmas.Nat.{pow_pos, pow-add, or_lt, xor_lt, ones-le, trailing_le}
use Rattle.std.proofs.Math.Nat.{mod-lt, mod-le, div-le_self, div-lt_iff_lt-mul, mul-mod_left, mul-div_cancel, pow-suc}
use Rattle.std.proofs.Math.Arith.{mod-mul, digits_lt}
use Rattle.std.specs.Int.Bits.{and_lt}
use lib.Count.{count_leading_zeros}
use Rattle.w4_defs.specs.declared.value.Cause.{Cause}
use Rattle.w4_defs.specs.declared.value.Cause.TheVariants.{DivideByZero, Overflow}
use Rattle.w4_defs.specs.declared.integer.Unary.TheVariants.{Clz, Ctz, Popcnt}
use Rattle.w4_defs.specs.declared.integer.Binary.TheVariants.{Add, Sub, Mul, DivS, DivU, RemS, RemU, And, Or, Xor, Shl, ShrS, ShrU, Rotl, Rotr}
use Rattle.w4_defs.specs.Integers.{as_signed, wrapped, floor_quotient, binary_digits, UnaryInRange, BinaryInRange, ExtendedInRange}

below_power : (k : ℕ) → k < 2 ^ k
below_power zero = omega arith
below_power (suc k) = omega (arith, below_power k, pow-suc 2 k)

pub wrapped_lt : (w : ℕ) (z : ℤ) → wrapped w z < 2 ^ w
wrapped_lt w (pos n) = mod-lt n (pow_pos w)
wrapped_lt w (negsuc n) = omega (arith, pow_pos w)

-- the binary digits of a number and the zeros above them fill the width
pub digits_and_zeros : (k n : ℕ) → binary_digits k n + count_leading_zeros k n ≡ k
unfolding binary_digits count_leading_zeros
digits_and_zeros zero n = omega arith
digits_and_zeros (suc k) zero = omega arith
digits_and_zeros (suc k) (suc n) = omega (arith, digits_and_zeros k (suc n / 2))

pub clz_is : (w a : ℕ) → w - binary_digits w a ≡ count_leading_zeros w a
clz_is w a = omega (arith, digits_and_zeros w a)

pub unary_in_range : UnaryInRange
unary_in_range w Clz a h = omega (arith, below_power w)
unary_in_range w Ctz a h = omega (arith, below_power w, trailing_le w a)
unary_in_range w Popcnt a h = omega (arith, below_power w, ones-le w a h)

-- k digits that leave at the top come back below: the two parts share no digit
turned_lt : (j k a : ℕ) → a < 2 ^ j * 2 ^ k → a * 2 ^ k % (2 ^ j * 2 ^ k) + a / 2 ^ j < 2 ^ j * 2 ^ k
turned_lt j k a h =
    let top : a * 2 ^ k % (2 ^ j * 2 ^ k) ≡ (a % 2 ^ j) * 2 ^ k =
    mod-mul (a * 2 ^ k) {m = 2 ^ j} {c = 2 ^ k} (pow_pos j) (pow_pos k)
    ∙ ap (λ x. (a * 2 ^ k / 2 ^ k % 2 ^ j) * 2 ^ k + x) (mul-mod_left a (2 ^ k))
    ∙ ap (λ x. (x % 2 ^ j) * 2 ^ k + 0) (mul-div_cancel a (pow_pos k)) ∙ omega arith in
    let low : a / 2 ^ j < 2 ^ k = (div-lt_iff_lt-mul (pow_pos j)).1 (omega arith) in
    subst (λ x. x + a / 2 ^ j < 2 ^ j * 2 ^ k) (sym top) (digits_lt (mod-lt a (pow_pos j)) low)

-- a rotation by k of the w digits
rotated_lt : (w k a : ℕ) → k ≤ w → a < 2 ^ w → a * 2 ^ k % 2 ^ w + a / 2 ^ (w - k) < 2 ^ w
rotated_lt w k a h less =
    let e : w - k + k ≡ w = omega arith in
    let power : 2 ^ (w - k) * 2 ^ k ≡ 2 ^ w = sym (pow-add 2 (w - k) k) ∙ ap (λ x. 2 ^ x) e in
    subst (λ x. a * 2 ^ k % x + a / 2 ^ (w - k) < x) power
    (turned_lt (w - k) k a (subst (λ x. a < x) (sym power) less))

checked : (t : Bool) (c : Cause) (r : Result ℕ Cause) (P : ℕ → Type 0) → IfOk r P → IfOk (cond t (Err c) r) P
checked true c r P h = tt
checked false c r P h = h

pub binary_in_range : BinaryInRange
binary_in_range w Add a b some ha hb = mod-lt (a + b) (pow_pos w)
binary_in_range w Sub a b some ha hb = mod-lt (a + (2 ^ w - b)) (pow_pos w)
binary_in_range w Mul a b some ha hb = mod-lt (a * b) (pow_pos w)
binary_in_range w DivS a b some ha hb =
    let quotient : Result ℕ Cause = Ok (wrapped w (int_div (as_signed w a) (as_signed w b))) in
    let least : Bool = nat_eq a (2 ^ (w - 1)) && nat_eq b (2 ^ w - 1) in
    checked (nat_eq b 0) DivideByZero (cond least (Err Overflow) quotient) (λ n. n < 2 ^ w)
    (checked least Overflow quotient (λ n. n < 2 ^ w)
    (wrapped_lt w (int_div (as_signed w a) (as_signed w b))))
binary_in_range w DivU a b some ha hb =
    checked (nat_eq b 0) DivideByZero (Ok (a / b)) (λ n. n < 2 ^ w) (omega (arith, div-le_self a b))
binary_in_range w RemS a b some ha hb =
    checked (nat_eq b 0) DivideByZero (Ok (wrapped w (int_rem (as_signed w a) (as_signed w b))))
    (λ n. n < 2 ^ w) (wrapped_lt w (int_rem (as_signed w a) (as_signed w b)))
binary_in_range w RemU a b some ha hb =
    checked (nat_eq b 0) DivideByZero (Ok (a % b)) (λ n. n < 2 ^ w) (omega (arith, mod-le a b))
binary_in_range w And a b some ha hb = and_lt w a b ha hb
binary_in_range w Or a b some ha hb = or_lt w a b ha hb
binary_in_range w Xor a b some ha hb = xor_lt w a b ha hb
binary_in_range w Shl a b some ha hb = mod-lt (a * 2 ^ (b % w)) (pow_pos w)
binary_in_range w ShrS a b some ha hb = wrapped_lt w (floor_quotient (as_signed w a) (2 ^ (b % w)))
binary_in_range w ShrU a b some ha hb = omega (arith, div-le_self a (2 ^ (b % w)))
binary_in_range w Rotl a b some ha hb = rotated_lt w (b % w) a (omega (arith, mod-lt b some)) ha
binary_in_range w Rotr a b some ha hb =
    let k : ℕ = b % w in
    let kept : k < w = mod-lt b some in
    let back : w - (w - k) ≡ k = omega arith in
    let turned : a * 2 ^ (w - k) % 2 ^ w + a / 2 ^ (w - (w - k)) < 2 ^ w =
    rotated_lt w (w - k) a (omega arith) ha in
    let again : a * 2 ^ (w - k) % 2 ^ w + a / 2 ^ k < 2 ^ w =
    subst (λ x. a * 2 ^ (w - k) % 2 ^ w + a / 2 ^ x < 2 ^ w) back turned in
    omega arith

pub extended_in_range : ExtendedInRange
extended_in_range n w a = wrapped_lt w (as_signed n (a % 2 ^ n))
