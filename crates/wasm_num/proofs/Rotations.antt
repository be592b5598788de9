-- A rotation joins two parts whose digits don't meet, so that their `or` is their sum. The machine's
-- rotation moves by (w - k) % w the other way, which is 0 where k is 0.
use Rattle.std.proofs.Common.{◌≡◌, ℕ, zero, suc, ◌+◌, ◌-◌, ◌*◌, ◌/◌, ◌%◌, ◌^◌, ◌<◌, bit_or, sym, ap, ap₂}
use Rattle.std.proofs.Common.{subst, ◌∙◌, arith}
use Rattle.std.proofs.lemmas.Nat.{or_shifted, or_comm, mod-pow-add, shl-shr, shr_below}
use Rattle.std.proofs.Math.Nat.{mul-mod_left, mod-eq_of_lt, mod_self, div-eq_of_lt, sub-zero}
use Rattle.std.specs.Int.Bits.{or_self}
use Rattle.w4_defs.specs.Integers.{rotl, rotr}

-- the part that moves up, at a width of j + k digits
shifted_up : (j k n : ℕ) → n * 2 ^ k % 2 ^ (j + k) ≡ n % 2 ^ j * 2 ^ k
shifted_up j k n =
    let split : n * 2 ^ k % 2 ^ (j + k) ≡ n * 2 ^ k / 2 ^ k % 2 ^ j * 2 ^ k + n * 2 ^ k % 2 ^ k =
    mod-pow-add (n * 2 ^ k) j k in
    let high : n * 2 ^ k / 2 ^ k % 2 ^ j * 2 ^ k ≡ n % 2 ^ j * 2 ^ k =
    ap (λ m. m % 2 ^ j * 2 ^ k) (shl-shr n k) in
    omega (arith, split, high, mul-mod_left n (2 ^ k))

-- the two parts: k digits up, and j digits down
joined : (w j k n : ℕ) → j + k ≡ w → n < 2 ^ w
    → bit_or (n * 2 ^ k % 2 ^ w) (n / 2 ^ j) ≡ n * 2 ^ k % 2 ^ w + n / 2 ^ j
joined w j k n whole h =
    let up : n * 2 ^ k % 2 ^ w ≡ n % 2 ^ j * 2 ^ k = ap (λ m. n * 2 ^ k % 2 ^ m) (sym whole)
    ∙ shifted_up j k n in
    let below : n < 2 ^ (k + j) = subst (λ m. n < 2 ^ m) (sym whole ∙ omega arith) h in
    ap (λ m. bit_or m (n / 2 ^ j)) up
    ∙ or_shifted (n % 2 ^ j) k (n / 2 ^ j) (shr_below n k j below)
    ∙ ap (λ m. m + n / 2 ^ j) (sym up)

-- nothing moves where the count is 0
moves_none : (w : ℕ) → (w - 0) % w ≡ 0
moves_none w = ap (λ m. m % w) (sub-zero w) ∙ mod_self w

same : (w n : ℕ) → n < 2 ^ w → n * 2 ^ 0 % 2 ^ w ≡ n
same w n h = mod-eq_of_lt (omega arith) ∙ omega arith

pub rotated_left : (w n k : ℕ) → k < w → n < 2 ^ w
    → bit_or (n * 2 ^ k % 2 ^ w) (n / 2 ^ ((w - k) % w)) ≡ rotl w n k
rotated_left w n zero k_lt h =
    let low : n / 2 ^ ((w - 0) % w) ≡ n = ap (λ m. n / 2 ^ m) (moves_none w) ∙ omega arith in
    let high : n / 2 ^ (w - 0) ≡ 0 = ap (λ m. n / 2 ^ m) (sub-zero w) ∙ div-eq_of_lt h in
    ap₂ bit_or (same w n h) low ∙ or_self n ∙ omega (arith, same w n h, high)
rotated_left w n (suc k) k_lt h =
    let back : (w - suc k) % w ≡ w - suc k = mod-eq_of_lt (omega arith) in
    ap (λ m. bit_or (n * 2 ^ suc k % 2 ^ w) (n / 2 ^ m)) back ∙ joined w (w - suc k) (suc k) n (omega arith) h

pub rotated_right : (w n k : ℕ) → k < w → n < 2 ^ w
    → bit_or (n / 2 ^ k) (n * 2 ^ ((w - k) % w) % 2 ^ w) ≡ rotr w n k
rotated_right w n zero k_lt h =
    let low : n * 2 ^ ((w - 0) % w) % 2 ^ w ≡ n = ap (λ m. n * 2 ^ m % 2 ^ w) (moves_none w) ∙ same w n h in
    let high : n * 2 ^ (w - 0) % 2 ^ w ≡ 0 = ap (λ m. n * 2 ^ m % 2 ^ w) (sub-zero w)
    ∙ mul-mod_left n (2 ^ w) in
    ap (λ m. bit_or m (n * 2 ^ ((w - 0) % w) % 2 ^ w)) (omega arith) ∙ ap (λ m. bit_or n m) low ∙ or_self n
    ∙ omega (arith, high)
rotated_right w n (suc k) k_lt h =
    let back : (w - suc k) % w ≡ w - suc k = mod-eq_of_lt (omega arith) in
    ap (λ m. bit_or (n / 2 ^ suc k) (n * 2 ^ m % 2 ^ w)) back
    ∙ or_comm (n / 2 ^ suc k) (n * 2 ^ (w - suc k) % 2 ^ w)
    ∙ joined w (suc k) (w - suc k) n (omega arith) h
    ∙ omega arith
