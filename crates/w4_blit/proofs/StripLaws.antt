-- Words as digits of two bits, the first the lowest.
use Rattle.std.proofs.Common.{◌≡◌, ◌≢◌, ℕ, ◌+◌, ◌-◌, ◌*◌, ◌/◌, ◌%◌, ◌^◌, ◌<◌, ◌≤◌, ◌⊎◌, min, Bool, true}
use Rattle.std.proofs.Common.{false, ◌&&◌, ◌||◌, List, length, get_or, set, subst, Option, Some, None}
use Rattle.std.proofs.Common.{unwrap_or, bit_and, bit_xor, mul_assoc, refl, sym, ◌∙◌, ap, inl, inr, arith}
use Rattle.std.specs.Prelude.{◌==◌, nat_le, nat_lt, if◌then◌else◌}
use Rattle.std.specs.Int.{bit_at}
use Rattle.std.specs.Option.{option_or}
use Rattle.std.proofs.lemmas.Bool.{cases_lt, cases_eq}
use Rattle.std.proofs.lemmas.Bool.Decides.{nat_tests}
use Rattle.std.proofs.lemmas.Nat.{field_of, mod-pow-add, mul-pow, pow-add, shl-shr, shr-shr}
use Rattle.std.proofs.lemmas.Nat.Bits.{bit_at-lt, bit_at_and, bit_at_xor}
use Rattle.std.proofs.Math.Nat.{zero-div}
use Rattle.std.proofs.lemmas.List.{get_or-set_same, get_or-set_other, length-set}
use Rattle.w4_defs.specs.Framebuffer.{Painter, paint, painted_pixel}
use Rattle.w4_defs.specs.Shapes.{only_if}
use Rattle.w4_defs.proofs.PaintLaws.{below_four, length-paint, paint_off, paint_step, set_paint}
use Rattle.w4_pixels.specs.Clipping.{clipped}
use Rattle.w4_blit.specs.Masks.{IsMask}
use Rattle.w4_blit.specs.Strips.{masked_index, masked_painter, strip_index, strip_painter}
use Rattle.w4_blit.specs.declared.masks.Strip.{Strip}

pub below_eight : (P : ℕ → Type 0) → P 0 → P 1 → P 2 → P 3 → P 4 → P 5 → P 6 → P 7
    → (k : ℕ) → k < 8 → P k
below_eight P a b c d e f g h k below = elim (cases_lt k 4) [
  | inl low ↦ below_four P a b c d k low
  | inr high ↦ (
      let Q : ℕ → Type 0 = λ j. P (4 + j) in
      let same : 4 + (k - 4) ≡ k = omega arith in
      rw (sym same) (below_four Q e f g h (k - 4) (omega arith)))
]

pub below_sixteen : (P : ℕ → Type 0) → P 0 → P 1 → P 2 → P 3 → P 4 → P 5 → P 6 → P 7 → P 8 → P 9 → P 10 → P
    11 → P 12 → P 13 → P 14 → P 15
    → (k : ℕ) → k < 16 → P k
below_sixteen P a b c d e f g h i j l m n o p q k below = elim (cases_lt k 8) [
  | inl low ↦ below_eight P a b c d e f g h k low
  | inr high ↦ (
      let Q : ℕ → Type 0 = λ r. P (8 + r) in
      let same : 8 + (k - 8) ≡ k = omega arith in
      rw (sym same) (below_eight Q i j l m n o p q (k - 8) (omega arith)))
]

-- ---- bits and digits

pub fours : (k : ℕ) → 4 ^ k ≡ 2 ^ (2 * k)
fours k =
    let twice : k + k ≡ 2 * k = omega arith in
    mul-pow 2 2 k ∙ sym (pow-add 2 k k) ∙ ap (λ (j : ℕ). 2 ^ j) twice

pub digit_bits : (n k : ℕ) → n / 4 ^ k % 4 ≡ bit_at n (2 * k) + 2 * bit_at n (2 * k + 1)
digit_bits n k =
    let high : n / 2 ^ (2 * k + 1) ≡ n / 2 ^ (2 * k) / 2 = sym (shr-shr n (2 * k) 1) in
    rw (fours k, high) (omega arith)

bit_of_zero : (p q : ℕ) → p < 2 → (p + min 0 ((p + q) % 2)) % 2 ≡ p
bit_of_zero p q hp = omega arith

bit_of_one : (p q : ℕ) → p < 2 → q < 2 → (p + min 1 ((p + q) % 2)) % 2 ≡ q
bit_of_one p q hp hq = omega arith

chosen_bit : (m a b i : ℕ) → bit_at (bit_xor a (bit_and m (bit_xor a b))) i
    ≡ (bit_at a i + min (bit_at m i) ((bit_at a i + bit_at b i) % 2)) % 2
chosen_bit m a b i =
    rw (bit_at_xor a (bit_and m (bit_xor a b)) i, bit_at_and m (bit_xor a b) i, bit_at_xor a b i) refl

pub first_bit : (m a b i : ℕ) → bit_at m i ≡ 0 → bit_at (bit_xor a (bit_and m (bit_xor a b))) i ≡ bit_at a i
first_bit m a b i h = chosen_bit m a b i
    ∙ ap (λ (n : ℕ). (bit_at a i + min n ((bit_at a i + bit_at b i) % 2)) % 2) h
    ∙ bit_of_zero (bit_at a i) (bit_at b i) (bit_at-lt a i)

pub other_bit : (m a b i : ℕ) → bit_at m i ≡ 1 → bit_at (bit_xor a (bit_and m (bit_xor a b))) i ≡ bit_at b i
other_bit m a b i h = chosen_bit m a b i
    ∙ ap (λ (n : ℕ). (bit_at a i + min n ((bit_at a i + bit_at b i) % 2)) % 2) h
    ∙ bit_of_one (bit_at a i) (bit_at b i) (bit_at-lt a i) (bit_at-lt b i)

both_zero : (d p q : ℕ) → d ≡ p + 2 * q → d ≡ 0 → (p ≡ 0) × (q ≡ 0)
both_zero d p q e h = (omega arith, omega arith)

both_one : (d p q : ℕ) → p < 2 → q < 2 → d ≡ p + 2 * q → d ≡ 3 → (p ≡ 1) × (q ≡ 1)
both_one d p q hp hq e h = (omega arith, omega arith)

same_digit : (n m k : ℕ) → bit_at n (2 * k) ≡ bit_at m (2 * k) → bit_at n (2 * k + 1) ≡ bit_at m (2 * k + 1)
    → n / 4 ^ k % 4 ≡ m / 4 ^ k % 4
same_digit n m k low high =
    digit_bits n k ∙ ap (λ (b : ℕ). b + 2 * bit_at n (2 * k + 1)) low
    ∙ ap (λ (b : ℕ). bit_at m (2 * k) + 2 * b) high ∙ sym (digit_bits m k)

pub first_digit : (m a b k : ℕ) → m / 4 ^ k % 4 ≡ 0
    → bit_xor a (bit_and m (bit_xor a b)) / 4 ^ k % 4 ≡ a / 4 ^ k % 4
first_digit m a b k h =
    let zeros = both_zero _ (bit_at m (2 * k)) (bit_at m (2 * k + 1)) (digit_bits m k) h in
    same_digit (bit_xor a (bit_and m (bit_xor a b))) a k (first_bit m a b (2 * k) zeros.0)
    (first_bit m a b (2 * k + 1) zeros.1)

pub other_digit : (m a b k : ℕ) → m / 4 ^ k % 4 ≡ 3
    → bit_xor a (bit_and m (bit_xor a b)) / 4 ^ k % 4 ≡ b / 4 ^ k % 4
other_digit m a b k h =
    let ones = both_one _ (bit_at m (2 * k)) (bit_at m (2 * k + 1)) (bit_at-lt m (2 * k))
    (bit_at-lt m (2 * k + 1)) (digit_bits m k) h in
    same_digit (bit_xor a (bit_and m (bit_xor a b))) b k (other_bit m a b (2 * k) ones.0)
    (other_bit m a b (2 * k + 1) ones.1)

-- ---- digits that are shifted

pub right_digit : (n s k : ℕ) → n / 2 ^ (2 * s) / 4 ^ k % 4 ≡ n / 4 ^ (s + k) % 4
right_digit n s k =
    let sum : 2 * s + 2 * k ≡ 2 * (s + k) = omega arith in
    rw (fours k, fours (s + k)) (ap (λ (m : ℕ). m % 4) (shr-shr n (2 * s) (2 * k))
    ∙ ap (λ (j : ℕ). n / 2 ^ j % 4) sum)

pub mod_four : (n i : ℕ) → n % 2 ^ (i + 2) % 4 ≡ n % 4
mod_four n i = ap (λ (m : ℕ). m % 4) (mod-pow-add n i 2) ∙ omega arith

pub left_digit : (n l d : ℕ) → l + d < 16 → n * 2 ^ (2 * l) % 4294967296 / 4 ^ (l + d) % 4 ≡ n / 4 ^ d % 4
left_digit n l d h =
    let i = 30 - 2 * (l + d) in
    let whole : (i + 2) + 2 * (l + d) ≡ 32 = omega arith in
    let parts : 2 * l + 2 * d ≡ 2 * (l + d) = omega arith in
    let field = field_of (n * 2 ^ (2 * l)) (i + 2) (2 * (l + d)) in
    let top : n * 2 ^ (2 * l) % 2 ^ 32 / 2 ^ (2 * (l + d)) ≡ n * 2 ^ (2 * l) / 2 ^ (2 * (l + d)) % 2 ^ (i +
    2) =
    ap (λ (j : ℕ). n * 2 ^ (2 * l) % 2 ^ j / 2 ^ (2 * (l + d))) (sym whole) ∙ field in
    let back : n * 2 ^ (2 * l) / 2 ^ (2 * (l + d)) ≡ n / 2 ^ (2 * d) =
    ap (λ (j : ℕ). n * 2 ^ (2 * l) / 2 ^ j) (sym parts) ∙ sym (shr-shr (n * 2 ^ (2 * l)) (2 * l) (2 * d))
    ∙ ap (λ (m : ℕ). m / 2 ^ (2 * d)) (shl-shr n (2 * l)) in
    ap (λ (p : ℕ). n * 2 ^ (2 * l) % 4294967296 / p % 4) (fours (l + d))
    ∙ ap (λ (m : ℕ). m % 4) top ∙ mod_four (n * 2 ^ (2 * l) / 2 ^ (2 * (l + d))) i
    ∙ ap (λ (m : ℕ). m % 4) back ∙ ap (λ (p : ℕ). n / p % 4) (sym (fours d))

pub left_none : (n l k : ℕ) → l < 16 → k < l → n * 2 ^ (2 * l) % 4294967296 / 4 ^ k % 4 ≡ 0
left_none n l k hl hk =
    let i = 30 - 2 * k in
    let j = 2 * (l - k) - 2 in
    let whole : (i + 2) + 2 * k ≡ 32 = omega arith in
    let parts : (j + 2) + 2 * k ≡ 2 * l = omega arith in
    let field = field_of (n * 2 ^ (2 * l)) (i + 2) (2 * k) in
    let top : n * 2 ^ (2 * l) % 2 ^ 32 / 2 ^ (2 * k) ≡ n * 2 ^ (2 * l) / 2 ^ (2 * k) % 2 ^ (i + 2) =
    ap (λ (m : ℕ). n * 2 ^ (2 * l) % 2 ^ m / 2 ^ (2 * k)) (sym whole) ∙ field in
    let power : 2 ^ (2 * l) ≡ 2 ^ (j + 2) * 2 ^ (2 * k) =
    ap (λ (m : ℕ). 2 ^ m) (sym parts) ∙ pow-add 2 (j + 2) (2 * k) in
    let product : n * 2 ^ (2 * l) ≡ (n * 2 ^ (j + 2)) * 2 ^ (2 * k) =
    ap (λ (m : ℕ). n * m) power ∙ sym (mul_assoc n (2 ^ (j + 2)) (2 ^ (2 * k))) in
    let back : n * 2 ^ (2 * l) / 2 ^ (2 * k) ≡ n * 2 ^ (j + 2) =
    ap (λ (m : ℕ). m / 2 ^ (2 * k)) product ∙ shl-shr (n * 2 ^ (j + 2)) (2 * k) in
    let four : n * 2 ^ (j + 2) ≡ n * 2 ^ j * 4 =
    ap (λ (m : ℕ). n * m) (pow-add 2 j 2) ∙ sym (mul_assoc n (2 ^ j) 4) in
    let none : n * 2 ^ j * 4 % 4 ≡ 0 = omega arith in
    ap (λ (p : ℕ). n * 2 ^ (2 * l) % 4294967296 / p % 4) (fours k)
    ∙ ap (λ (m : ℕ). m % 4) top ∙ mod_four (n * 2 ^ (2 * l) / 2 ^ (2 * k)) i
    ∙ ap (λ (m : ℕ). m % 4) (back ∙ four) ∙ none

-- ---- plain strips

plain_digit : (index k : ℕ) → index < 4 → k < 16 → 1431655765 * index / 4 ^ k % 4 ≡ index
plain_digit index k hi hk =
    let P : ℕ → Type 0 = λ j. 1431655765 * index / 4 ^ j % 4 ≡ index in
    below_sixteen P (omega arith) (omega arith) (omega arith) (omega arith) (omega arith) (omega arith)
    (omega arith) (omega arith) (omega arith) (omega arith) (omega arith) (omega arith) (omega arith) (omega
    arith) (omega arith) (omega arith) k hk

pub ones_digit : (k : ℕ) → k < 16 → 4294967295 / 4 ^ k % 4 ≡ 3
ones_digit k hk =
    let P : ℕ → Type 0 = λ j. 4294967295 / 4 ^ j % 4 ≡ 3 in
    below_sixteen P refl refl refl refl refl refl refl refl refl refl refl refl refl refl refl refl k hk

pub zero_digit : (k : ℕ) → 0 / 4 ^ k % 4 ≡ 0
zero_digit k = ap (λ (d : ℕ). d % 4) (zero-div (4 ^ k))

masked_some : (indices mask k index : ℕ) → mask / 4 ^ k % 4 ≡ 3 → indices / 4 ^ k % 4 ≡ index
    → masked_index indices mask k ≡ Some index
masked_some indices mask k index em ei =
    ap (λ (d : ℕ). if d == 0 then None else Some (indices / 4 ^ k % 4)) em ∙ ap (λ (d : ℕ). Some d) ei

pub masked_none : (indices mask k : ℕ) → mask / 4 ^ k % 4 ≡ 0 → masked_index indices mask k ≡ None
masked_none indices mask k em = ap (λ (d : ℕ). if d == 0 then None else Some (indices / 4 ^ k % 4)) em

pub masked_same : (indices mask other k : ℕ) → mask / 4 ^ k % 4 ≡ other / 4 ^ k % 4
    → masked_index indices mask k ≡ masked_index indices other k
masked_same indices mask other k em = ap (λ (d : ℕ). if d == 0 then None else Some (indices / 4 ^ k % 4)) em

pub plain_some : (index k : ℕ) → index < 4 → k < 16 → masked_index (1431655765 * index) 4294967295 k ≡ Some
    index
plain_some index k hi hk =
    masked_some (1431655765 * index) 4294967295 k index (ones_digit k hk) (plain_digit index k hi hk)

-- a digit of a mask is 0 or 3
pub is_mask_digit : (d : ℕ) → (d ≡ 0) ⊎ (d ≡ 3) → (d == 0 || d == 3) ≡ true
is_mask_digit d (inl e) = grind (arith, nat_tests)
is_mask_digit d (inr e) = grind (arith, nat_tests)

zero_or_three : (d : ℕ) → (d == 0 || d == 3) ≡ true → (d ≡ 0) ⊎ (d ≡ 3)
zero_or_three d e = elim (cases_eq d 0) [
  | inl zero ↦ inl zero
  | inr some ↦ inr (grind (arith, nat_tests))
]

pub mask_digit : (mask k : ℕ) → IsMask mask → k < 16 → (mask / 4 ^ k % 4 ≡ 0) ⊎ (mask / 4 ^ k % 4 ≡ 3)
mask_digit mask k is hk = zero_or_three (mask / 4 ^ k % 4) (is k hk)

-- three times a bit is one
pub bit_mask : (n digit : ℕ) → digit ≡ 3 * (n % 2) → (digit ≡ 0) ⊎ (digit ≡ 3)
bit_mask n digit e = elim (cases_eq (n % 2) 1) [
  | inl one ↦ inr (omega arith)
  | inr none ↦ inl (omega arith)
]

-- eight digits have nothing behind them
pub past_eight : (n k : ℕ) → n < 65536 → 8 ≤ k → n / 4 ^ k % 4 ≡ 0
past_eight n k small h =
    let none : n / 65536 ≡ 0 = omega arith in
    let same : 8 + (k - 8) ≡ k = omega arith in
    ap (λ (j : ℕ). n / 4 ^ j % 4) (sym same) ∙ sym (right_digit n 8 (k - 8))
    ∙ ap (λ (m : ℕ). m / 4 ^ (k - 8) % 4) none ∙ zero_digit (k - 8)

pub past_sixteen : (n k : ℕ) → n < 4294967296 → 16 ≤ k → n / 4 ^ k % 4 ≡ 0
past_sixteen n k small h =
    let none : n / 4294967296 ≡ 0 = omega arith in
    let same : 16 + (k - 16) ≡ k = omega arith in
    ap (λ (j : ℕ). n / 4 ^ j % 4) (sym same) ∙ sym (right_digit n 16 (k - 16))
    ∙ ap (λ (m : ℕ). m / 4 ^ (k - 16) % 4) none ∙ zero_digit (k - 16)

-- ---- the part of a strip

from_low : (low k : ℕ) → low < 16 → k < 16
    → 4294967295 * 2 ^ (2 * low) % 4294967296 / 4 ^ k % 4 ≡ (if nat_lt k low then 0 else 3)
from_low low k hl hk =
    let Q : ℕ → ℕ → Type 0 = λ i j. 4294967295 * 2 ^ (2 * i) % 4294967296 / 4 ^ j % 4 ≡ (if nat_lt j i then 0
    else 3) in
    let P : ℕ → Type 0 = λ i. Q i k in
    below_sixteen P
    (below_sixteen (Q 0) refl refl refl refl refl refl refl refl refl refl refl refl refl refl refl refl k hk)
    (below_sixteen (Q 1) refl refl refl refl refl refl refl refl refl refl refl refl refl refl refl refl k hk)
    (below_sixteen (Q 2) refl refl refl refl refl refl refl refl refl refl refl refl refl refl refl refl k hk)
    (below_sixteen (Q 3) refl refl refl refl refl refl refl refl refl refl refl refl refl refl refl refl k hk)
    (below_sixteen (Q 4) refl refl refl refl refl refl refl refl refl refl refl refl refl refl refl refl k hk)
    (below_sixteen (Q 5) refl refl refl refl refl refl refl refl refl refl refl refl refl refl refl refl k hk)
    (below_sixteen (Q 6) refl refl refl refl refl refl refl refl refl refl refl refl refl refl refl refl k hk)
    (below_sixteen (Q 7) refl refl refl refl refl refl refl refl refl refl refl refl refl refl refl refl k hk)
    (below_sixteen (Q 8) refl refl refl refl refl refl refl refl refl refl refl refl refl refl refl refl k hk)
    (below_sixteen (Q 9) refl refl refl refl refl refl refl refl refl refl refl refl refl refl refl refl k hk)
    (below_sixteen (Q 10) refl refl refl refl refl refl refl refl refl refl refl refl refl refl refl refl k
    hk)
    (below_sixteen (Q 11) refl refl refl refl refl refl refl refl refl refl refl refl refl refl refl refl k
    hk)
    (below_sixteen (Q 12) refl refl refl refl refl refl refl refl refl refl refl refl refl refl refl refl k
    hk)
    (below_sixteen (Q 13) refl refl refl refl refl refl refl refl refl refl refl refl refl refl refl refl k
    hk)
    (below_sixteen (Q 14) refl refl refl refl refl refl refl refl refl refl refl refl refl refl refl refl k
    hk)
    (below_sixteen (Q 15) refl refl refl refl refl refl refl refl refl refl refl refl refl refl refl refl k
    hk)
    low hl

pub low_digit : (low k : ℕ) → low < 16 → k < 16 → low ≤ k
    → 4294967295 * 2 ^ (2 * low) % 4294967296 / 4 ^ k % 4 ≡ 3
low_digit low k hl hk h =
    let test : nat_lt k low ≡ false = grind (arith, nat_tests) in
    from_low low k hl hk ∙ ap (λ (t : Bool). if t then 0 else 3) test

pub below_digit : (low k : ℕ) → low < 16 → k < 16 → k < low
    → 4294967295 * 2 ^ (2 * low) % 4294967296 / 4 ^ k % 4 ≡ 0
below_digit low k hl hk h =
    let test : nat_lt k low ≡ true = grind (arith, nat_tests) in
    from_low low k hl hk ∙ ap (λ (t : Bool). if t then 0 else 3) test

to_high : (i k : ℕ) → i < 16 → k < 16
    → 4294967295 / 2 ^ (32 - 2 * (i + 1)) / 4 ^ k % 4 ≡ (if nat_lt k (i + 1) then 3 else 0)
to_high i k hi hk =
    let Q : ℕ → ℕ → Type 0 = λ i j. 4294967295 / 2 ^ (32 - 2 * (i + 1)) / 4 ^ j % 4 ≡ (if nat_lt j (i + 1)
    then 3 else 0) in
    let P : ℕ → Type 0 = λ i. Q i k in
    below_sixteen P
    (below_sixteen (Q 0) refl refl refl refl refl refl refl refl refl refl refl refl refl refl refl refl k hk)
    (below_sixteen (Q 1) refl refl refl refl refl refl refl refl refl refl refl refl refl refl refl refl k hk)
    (below_sixteen (Q 2) refl refl refl refl refl refl refl refl refl refl refl refl refl refl refl refl k hk)
    (below_sixteen (Q 3) refl refl refl refl refl refl refl refl refl refl refl refl refl refl refl refl k hk)
    (below_sixteen (Q 4) refl refl refl refl refl refl refl refl refl refl refl refl refl refl refl refl k hk)
    (below_sixteen (Q 5) refl refl refl refl refl refl refl refl refl refl refl refl refl refl refl refl k hk)
    (below_sixteen (Q 6) refl refl refl refl refl refl refl refl refl refl refl refl refl refl refl refl k hk)
    (below_sixteen (Q 7) refl refl refl refl refl refl refl refl refl refl refl refl refl refl refl refl k hk)
    (below_sixteen (Q 8) refl refl refl refl refl refl refl refl refl refl refl refl refl refl refl refl k hk)
    (below_sixteen (Q 9) refl refl refl refl refl refl refl refl refl refl refl refl refl refl refl refl k hk)
    (below_sixteen (Q 10) refl refl refl refl refl refl refl refl refl refl refl refl refl refl refl refl k
    hk)
    (below_sixteen (Q 11) refl refl refl refl refl refl refl refl refl refl refl refl refl refl refl refl k
    hk)
    (below_sixteen (Q 12) refl refl refl refl refl refl refl refl refl refl refl refl refl refl refl refl k
    hk)
    (below_sixteen (Q 13) refl refl refl refl refl refl refl refl refl refl refl refl refl refl refl refl k
    hk)
    (below_sixteen (Q 14) refl refl refl refl refl refl refl refl refl refl refl refl refl refl refl refl k
    hk)
    (below_sixteen (Q 15) refl refl refl refl refl refl refl refl refl refl refl refl refl refl refl refl k
    hk)
    i hi

to_high_at : (high k : ℕ) → 0 < high → high ≤ 16 → k < 16
    → 4294967295 / 2 ^ (32 - 2 * high) / 4 ^ k % 4 ≡ (if nat_lt k high then 3 else 0)
to_high_at high k some hh hk =
    let same : high - 1 + 1 ≡ high = omega arith in
    ap (λ (h : ℕ). 4294967295 / 2 ^ (32 - 2 * h) / 4 ^ k % 4) (sym same)
    ∙ to_high (high - 1) k (omega arith) hk ∙ ap (λ (h : ℕ). if nat_lt k h then 3 else 0) same

pub high_digit : (high k : ℕ) → high ≤ 16 → k < high
    → 4294967295 / 2 ^ (32 - 2 * high) / 4 ^ k % 4 ≡ 3
high_digit high k hh h =
    let test : nat_lt k high ≡ true = grind (arith, nat_tests) in
    to_high_at high k (omega arith) hh (omega arith) ∙ ap (λ (t : Bool). if t then 3 else 0) test

pub past_digit : (high k : ℕ) → 0 < high → high ≤ 16 → k < 16 → high ≤ k
    → 4294967295 / 2 ^ (32 - 2 * high) / 4 ^ k % 4 ≡ 0
past_digit high k some hh hk h =
    let test : nat_lt k high ≡ false = grind (arith, nat_tests) in
    to_high_at high k some hh hk ∙ ap (λ (t : Bool). if t then 3 else 0) test

-- ---- a byte of a strip

-- a digit of a byte that is written under a mask
masked_digit : (page : List ℕ) (q row k digit indices mask : ℕ) → k < 4
    → (mask / 4 ^ k % 4 ≡ 0) ⊎ (mask / 4 ^ k % 4 ≡ 3)
    → (mask / 4 ^ k % 4 ≡ 0 → digit ≡ get_or page (160 + (40 * row + q)) 0 / 4 ^ k % 4)
    → (mask / 4 ^ k % 4 ≡ 3 → digit ≡ indices / 4 ^ k % 4)
    → digit ≡ painted_pixel page (masked_painter q row indices mask) (4 * q + k) row
masked_digit page q row k digit indices mask hk either kept taken =
    let byte_is : (160 * row + (4 * q + k)) / 4 ≡ 40 * row + q = omega arith in
    let which : (4 * q + k) % 4 ≡ k = omega arith in
    let test : ((4 * q + k) / 4 == q && row == row) ≡ true = grind (arith, nat_tests) in
    let old = get_or page (160 + (40 * row + q)) 0 / 4 ^ k % 4 in
    let twice : (n : ℕ) → n % 4 % 4 ≡ n % 4 = λ n. omega arith in
    rw (byte_is, which, test) (elim either [
      | inl z ↦ kept z ∙ sym (ap (λ (o : Option ℕ). unwrap_or o old % 4) (masked_none indices mask k z)
          ∙ twice (get_or page (160 + (40 * row + q)) 0 / 4 ^ k))
      | inr t ↦ taken t
          ∙ sym (ap (λ (o : Option ℕ). unwrap_or o old % 4) (masked_some indices mask k (indices / 4 ^ k % 4)
          t refl)
          ∙ twice (indices / 4 ^ k))
    ])

byte_digit : (n j m : ℕ) → j < 4 → m < 4 → n / 2 ^ (8 * j) % 256 / 4 ^ m % 4 ≡ n / 4 ^ (4 * j + m) % 4
byte_digit n j m hj hm =
    let Q : ℕ → ℕ → Type 0 = λ j m. n / 2 ^ (8 * j) % 256 / 4 ^ m % 4 ≡ n / 4 ^ (4 * j + m) % 4 in
    let P : ℕ → Type 0 = λ j. Q j m in
    below_four P
    (below_four (Q 0) (omega arith) (omega arith) (omega arith) (omega arith) m hm)
    (below_four (Q 1) (omega arith) (omega arith) (omega arith) (omega arith) m hm)
    (below_four (Q 2) (omega arith) (omega arith) (omega arith) (omega arith) m hm)
    (below_four (Q 3) (omega arith) (omega arith) (omega arith) (omega arith) m hm)
    j hj

pub byte_digit_at : (n j m k : ℕ) → j < 4 → m < 4 → k ≡ 4 * j + m → n / 2 ^ (8 * j) % 256 / 4 ^ m % 4 ≡ n / 4
    ^ k % 4
byte_digit_at n j m k hj hm e = byte_digit n j m hj hm ∙ ap (λ (i : ℕ). n / 4 ^ i % 4) (sym e)

pub or_none : (o : Option ℕ) → option_or o None ≡ o
or_none None = refl
or_none (Some n) = refl

-- those in the bytes from q up to `end` of a row
abbrev part_painter : ℕ → ℕ → ℕ → Strip → Painter
part_painter q end row strip u v =
    only_if ((nat_le q (u / 4) && nat_lt (u / 4) end) && v == row) (strip_index strip (u - 4 * q))

-- one more byte of a strip
strip_more : (q at row : ℕ) (strip : Strip) (u v : ℕ) → q ≤ at → at < q + 4
    → option_or (masked_painter at row (strip.indices / 2 ^ (8 * (at - q)) % 256)
    (strip.mask / 2 ^ (8 * (at - q)) % 256) u v) (part_painter q at row strip u v)
    ≡ part_painter q (at + 1) row strip u v
strip_more q at row strip u v hq hat = elim (cases_eq (u / 4) at) [
  | inl here ↦ (
      let first : (u / 4 == at && v == row) ≡ (v == row) = grind (arith, nat_tests) in
      let before : ((nat_le q (u / 4) && nat_lt (u / 4) at) && v == row) ≡ false = grind (arith, nat_tests) in
      let both : ((nat_le q (u / 4) && nat_lt (u / 4) (at + 1)) && v == row) ≡ (v == row) =
      grind (arith, nat_tests) in
      let k : u - 4 * q ≡ 4 * (at - q) + u % 4 = omega arith in
      let j : at - q < 4 = omega arith in
      let m : u % 4 < 4 = omega arith in
      let indices = byte_digit_at strip.indices (at - q) (u % 4) (u - 4 * q) j m k in
      let mask = byte_digit_at strip.mask (at - q) (u % 4) (u - 4 * q) j m k in
      let same : masked_index (strip.indices / 2 ^ (8 * (at - q)) % 256) (strip.mask / 2 ^ (8 * (at - q)) %
      256)
      (u % 4) ≡ strip_index strip (u - 4 * q) =
      ap (λ (d : ℕ). if d == 0 then None else Some (strip.indices / 2 ^ (8 * (at - q)) % 256 / 4 ^ (u % 4) %
      4)) mask
      ∙ ap (λ (d : ℕ). if strip.mask / 4 ^ (u - 4 * q) % 4 == 0 then None else Some d) indices in
      rw (first, before, both) (or_none _ ∙ ap (only_if (v == row)) same))
  | inr n ↦ (
      let first : (u / 4 == at && v == row) ≡ false = grind (arith, nat_tests) in
      let both : ((nat_le q (u / 4) && nat_lt (u / 4) (at + 1)) && v == row)
      ≡ ((nat_le q (u / 4) && nat_lt (u / 4) at) && v == row) = grind (arith, nat_tests) in
      rw (first, both) refl)
]

not_here : (q row indices mask u v : ℕ) → u < 160 → q < 40 → (160 * v + u) / 4 ≢ 40 * row + q
    → masked_painter q row indices mask u v ≡ None
not_here q row indices mask u v hu hq other = grind (arith, nat_tests)

nothing_yet : (q end row : ℕ) (strip : Strip) (u v : ℕ) → end ≤ q → part_painter q end row strip u v ≡ None
nothing_yet q end row strip u v h = grind (arith, nat_tests)

one_more : (page p : List ℕ) (row q j next word : ℕ) (strip : Strip) → length page ≡ 65536
    → ((i : ℕ) → get_or p i 0 < 256) → row < 160 → q ≤ 36 → j < 4 → q + j + 1 ≡ next → IsMask strip.mask
    → ((k : ℕ) → k < 16 → strip.mask / 4 ^ k % 4 ≡ 0
    → word / 4 ^ k % 4 ≡ get_or page (160 + (40 * row + (q + k / 4))) 0 / 4 ^ (k % 4) % 4)
    → ((k : ℕ) → k < 16 → strip.mask / 4 ^ k % 4 ≡ 3 → word / 4 ^ k % 4 ≡ strip.indices / 4 ^ k % 4)
    → get_or p (160 + (40 * row + (q + j))) 0 ≡ get_or page (160 + (40 * row + (q + j))) 0
    → p ≡ paint page (part_painter q (q + j) row strip)
    → set p (160 + (40 * row + (q + j))) (word / 2 ^ (8 * j) % 256)
    ≡ paint page (part_painter q next row strip)
one_more page p row q j next word strip len small hrow hq hj en is kept taken unchanged e =
    let b = word / 2 ^ (8 * j) % 256 in
    let indices = strip.indices / 2 ^ (8 * j) % 256 in
    let mask = strip.mask / 2 ^ (8 * j) % 256 in
    let size : length p ≡ 65536 = ap length e ∙ length-paint page (part_painter q (q + j) row strip) ∙ len in
    let back : q + j - q ≡ j = omega arith in
    let put : set p (160 + (40 * row + (q + j))) b ≡ paint p (masked_painter (q + j) row indices mask) =
    set_paint p (masked_painter (q + j) row indices mask) row (q + j) b size hrow (omega arith) (omega arith)
    small
    (λ k hk. (
    let t = 4 * j + k in
    let ht : t < 16 = omega arith in
    let digit : b / 4 ^ k % 4 ≡ word / 4 ^ t % 4 = byte_digit_at word j k t hj hk refl in
    let of_mask : mask / 4 ^ k % 4 ≡ strip.mask / 4 ^ t % 4 = byte_digit_at strip.mask j k t hj hk refl in
    let of_index : indices / 4 ^ k % 4 ≡ strip.indices / 4 ^ t % 4 =
    byte_digit_at strip.indices j k t hj hk refl in
    let byte : t / 4 ≡ j = omega arith in
    let place : t % 4 ≡ k = omega arith in
    let either : (mask / 4 ^ k % 4 ≡ 0) ⊎ (mask / 4 ^ k % 4 ≡ 3) = elim (mask_digit strip.mask t is ht) [
      | inl none ↦ inl (of_mask ∙ none)
      | inr all ↦ inr (of_mask ∙ all)
    ] in
    masked_digit p (q + j) row k (b / 4 ^ k % 4) indices mask hk either
    (λ none. digit ∙ kept t ht (sym of_mask ∙ none)
    ∙ ap (λ (i : ℕ). get_or page (160 + (40 * row + (q + i))) 0 / 4 ^ (t % 4) % 4) byte
    ∙ ap (λ (m : ℕ). get_or page (160 + (40 * row + (q + j))) 0 / 4 ^ m % 4) place
    ∙ ap (λ (n : ℕ). n / 4 ^ k % 4) (sym unchanged))
    (λ all. digit ∙ taken t ht (sym of_mask ∙ all) ∙ sym of_index)))
    (λ u v hu hv other. not_here (q + j) row indices mask u v hu (omega arith) other) in
    put ∙ ap (λ (r : List ℕ). paint r (masked_painter (q + j) row indices mask)) e
    ∙ paint_step page (part_painter q (q + j) row strip) (masked_painter (q + j) row indices mask)
    (part_painter q (q + j + 1) row strip) len
    (λ u v hu hv. ap (λ (n : ℕ). option_or (masked_painter (q + j) row (strip.indices / 2 ^ (8 * n) % 256)
    (strip.mask / 2 ^ (8 * n) % 256) u v) (part_painter q (q + j) row strip u v)) (sym back)
    ∙ strip_more q (q + j) row strip u v (omega arith) (omega arith))
    ∙ ap (λ (n : ℕ). paint page (part_painter q n row strip)) en

small_set : (p : List ℕ) (k b : ℕ) → k < length p → ((i : ℕ) → get_or p i 0 < 256) → b < 256
    → (i : ℕ) → get_or (set p k b) i 0 < 256
small_set p k b h small hb i = elim (cases_eq i k) [
  | inl e ↦ subst (λ (n : ℕ). n < 256)
      (sym (ap (λ (j : ℕ). get_or (set p k b) j 0) e ∙ get_or-set_same p k b 0 h)) hb
  | inr n ↦ subst (λ (m : ℕ). m < 256) (sym (get_or-set_other p k i b 0 n)) (small i)
]

-- four bytes written, of which a word has the digits
pub word_written : (page : List ℕ) (row q word a0 a1 a2 a3 b0 : ℕ) (strip : Strip) → length page ≡ 65536
    → ((i : ℕ) → get_or page i 0 < 256) → row < 160 → q ≤ 36 → IsMask strip.mask
    → a0 ≡ 160 + (40 * row + (q + 0)) → a1 ≡ 160 + (40 * row + (q + 1)) → a2 ≡ 160 + (40 * row + (q + 2))
    → a3 ≡ 160 + (40 * row + (q + 3)) → b0 ≡ word / 2 ^ (8 * 0) % 256
    → ((k : ℕ) → k < 16 → strip.mask / 4 ^ k % 4 ≡ 0
    → word / 4 ^ k % 4 ≡ get_or page (160 + (40 * row + (q + k / 4))) 0 / 4 ^ (k % 4) % 4)
    → ((k : ℕ) → k < 16 → strip.mask / 4 ^ k % 4 ≡ 3 → word / 4 ^ k % 4 ≡ strip.indices / 4 ^ k % 4)
    → set (set (set (set page a0 b0) a1 (word / 256 % 256)) a2 (word / 65536 % 256)) a3 (word / 16777216 %
    256)
    ≡ paint page (strip_painter q row strip)
word_written page row q word a0 a1 a2 a3 b0 strip len small hrow hq is e0 e1 e2 e3 eb kept taken =
    let c0 = 160 + (40 * row + (q + 0)) in
    let c1 = 160 + (40 * row + (q + 1)) in
    let c2 = 160 + (40 * row + (q + 2)) in
    let c3 = 160 + (40 * row + (q + 3)) in
    let w0 = word / 2 ^ (8 * 0) % 256 in
    let w1 = word / 256 % 256 in
    let w2 = word / 65536 % 256 in
    let p1 = set page c0 w0 in
    let p2 = set p1 c1 w1 in
    let p3 = set p2 c2 w2 in
    let l1 : length p1 ≡ 65536 = length-set page c0 w0 ∙ len in
    let l2 : length p2 ≡ 65536 = length-set p1 c1 w1 ∙ l1 in
    let s1 = small_set page c0 w0 (omega arith) small (omega arith) in
    let s2 = small_set p1 c1 w1 (omega arith) s1 (omega arith) in
    let s3 = small_set p2 c2 w2 (omega arith) s2 (omega arith) in
    let none : page ≡ paint page (part_painter q (q + 0) row strip) =
    paint_off page (part_painter q (q + 0) row strip) len small
    (λ u v hu hv. nothing_yet q (q + 0) row strip u v (omega arith)) in
    let first : p1 ≡ paint page (part_painter q (q + 1) row strip) =
    one_more page page row q 0 (q + 1) word strip len small hrow hq (omega arith) (omega arith) is kept taken
    refl none in
    let same1 : get_or p1 c1 0 ≡ get_or page c1 0 = get_or-set_other page c0 c1 w0 0 (λ e. omega arith) in
    let second : p2 ≡ paint page (part_painter q (q + 2) row strip) =
    one_more page p1 row q 1 (q + 2) word strip len s1 hrow hq (omega arith) (omega arith) is kept taken
    same1 first in
    let same2 : get_or p2 c2 0 ≡ get_or page c2 0 = get_or-set_other p1 c1 c2 w1 0 (λ e. omega arith)
    ∙ get_or-set_other page c0 c2 w0 0 (λ e. omega arith) in
    let third : p3 ≡ paint page (part_painter q (q + 3) row strip) =
    one_more page p2 row q 2 (q + 3) word strip len s2 hrow hq (omega arith) (omega arith) is kept taken
    same2 second in
    let same3 : get_or p3 c3 0 ≡ get_or page c3 0 = get_or-set_other p2 c2 c3 w2 0 (λ e. omega arith)
    ∙ get_or-set_other p1 c1 c3 w1 0 (λ e. omega arith) ∙ get_or-set_other page c0 c3 w0 0 (λ e. omega arith)
    in
    rw (e0, e1, e2, e3, eb)
    (one_more page p3 row q 3 (q + 4) word strip len s3 hrow hq (omega arith) (omega arith) is kept taken
    same3 third)

-- a strip that has what a painter paints of a row's part
pub strip_clipped : (f : Painter) (q left right v : ℕ) (strip : Strip) (a b : ℕ)
    → 4 * q ≤ left → right ≤ 4 * q + 16
    → ((k : ℕ) → left ≤ 4 * q + k → 4 * q + k < right → strip_index strip k ≡ f (4 * q + k) v)
    → ((k : ℕ) → k < 16 → (4 * q + k < left) ⊎ (right ≤ 4 * q + k) → strip.mask / 4 ^ k % 4 ≡ 0)
    → strip_painter q v strip a b ≡ clipped f left right v (v + 1) a b
strip_clipped f q left right v strip a b hl hr inside outside = elim (cases_eq b v) [
  | inl row ↦ elim (cases_lt a (4 * q)) [
    | inl before ↦ (
        let off : ((nat_le q (a / 4) && nat_lt (a / 4) (q + 4)) && b == v) ≡ false = grind (arith, nat_tests)
        in
        let none : ((nat_le left a && nat_lt a right) && (nat_le v b && nat_lt b (v + 1))) ≡ false =
        grind (arith, nat_tests) in
        rw (off, none) refl)
    | inr here ↦ elim (cases_lt a (4 * q + 16)) [
      | inr past ↦ (
          let off : ((nat_le q (a / 4) && nat_lt (a / 4) (q + 4)) && b == v) ≡ false = grind (
            arith,
            nat_tests,
          ) in
          let none : ((nat_le left a && nat_lt a right) && (nat_le v b && nat_lt b (v + 1))) ≡ false =
          grind (arith, nat_tests) in
          rw (off, none) refl)
      | inl there ↦ (
          let k : 4 * q + (a - 4 * q) ≡ a = omega arith in
          let on : ((nat_le q (a / 4) && nat_lt (a / 4) (q + 4)) && b == v) ≡ true = grind (arith, nat_tests)
          in
          elim (cases_lt a left) [
            | inl low ↦ (
                let none : ((nat_le left a && nat_lt a right) && (nat_le v b && nat_lt b (v + 1))) ≡ false =
                grind (arith, nat_tests) in
                rw (on, none) (masked_none strip.indices strip.mask (a - 4 * q)
                (outside (a - 4 * q) (omega arith) (inl (omega arith)))))
            | inr from ↦ elim (cases_lt a right) [
              | inr high ↦ (
                  let none : ((nat_le left a && nat_lt a right) && (nat_le v b && nat_lt b (v + 1))) ≡ false =
                  grind (arith, nat_tests) in
                  rw (on, none) (masked_none strip.indices strip.mask (a - 4 * q)
                  (outside (a - 4 * q) (omega arith) (inr (omega arith)))))
              | inl to ↦ (
                  let all : ((nat_le left a && nat_lt a right) && (nat_le v b && nat_lt b (v + 1))) ≡ true =
                  grind (arith, nat_tests) in
                  rw (on, all) (inside (a - 4 * q) (omega arith) (omega arith) ∙ ap (λ (u : ℕ). f u v) k
                  ∙ ap (f a) (sym row)))
            ]
          ])
    ]
  ]
  | inr n ↦ (
      let off : ((nat_le q (a / 4) && nat_lt (a / 4) (q + 4)) && b == v) ≡ false = grind (arith, nat_tests) in
      let none : ((nat_le left a && nat_lt a right) && (nat_le v b && nat_lt b (v + 1))) ≡ false =
      grind (arith, nat_tests) in
      rw (off, none) refl)
]
