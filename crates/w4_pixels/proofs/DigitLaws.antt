-- Digits of a byte by masks.
use Rattle.std.proofs.Common.{◌≡◌, ◌⊎◌, ℕ, ◌+◌, ◌-◌, ◌*◌, ◌/◌, ◌%◌, ◌^◌, ◌<◌, ◌≤◌, Bool, true, false, ◌&&◌}
use Rattle.std.proofs.Common.{refl, ◌∙◌, ap, subst, inl, inr, arith}
use Rattle.std.specs.Prelude.{◌==◌, if◌then◌else◌, nat_le, nat_lt}
use Rattle.std.specs.Int.Bits.{bit_and, bit_or, and_zero_r, or_zero_r}
use Rattle.std.proofs.lemmas.Nat.{and_mask, and_mod, and_shr, or_mod, or_shr}
use Rattle.w4_defs.proofs.PaintLaws.{below_four}

-- the mask of one digit
pub one_digit : (k j : ℕ) → k < 4 → j < 4 → 3 * 2 ^ (2 * k) % 256 / 4 ^ j % 4 ≡ (if j == k then 3 else 0)
one_digit k j hk hj =
    let Q : ℕ → ℕ → Type 0 = λ k j. 3 * 2 ^ (2 * k) % 256 / 4 ^ j % 4 ≡ (if j == k then 3 else 0) in
    let each : (k : ℕ) → Q k 0 → Q k 1 → Q k 2 → Q k 3 → Q k j = λ k a b c d. below_four (Q k) a b c d j hj in
    below_four (λ k. Q k j) (each 0 refl refl refl refl) (each 1 refl refl refl refl)
    (each 2 refl refl refl refl)
    (each 3 refl refl refl refl) k hk

pub three_or_none : (here : Bool) (digit : ℕ) → digit ≡ (if here then 3 else 0) → (digit ≡ 3) ⊎ (digit ≡ 0)
three_or_none true digit e = inl e
three_or_none false digit e = inr e

pub chosen_digit : (here : Bool) (index digit : ℕ)
    → (if (if here then 3 else 0) == 3 then index else digit) ≡ (if here then index else digit)
chosen_digit true index digit = refl
chosen_digit false index digit = refl

-- the digits of what is made by `&`, `|` and `!`
pub and_digit : (a b k : ℕ) → k < 4 → bit_and a b / 4 ^ k % 4 ≡ bit_and (a / 4 ^ k % 4) (b / 4 ^ k % 4)
and_digit a b k h =
    let P : ℕ → Type 0 = λ j. bit_and a b / 4 ^ j % 4 ≡ bit_and (a / 4 ^ j % 4) (b / 4 ^ j % 4) in
    let at : (n : ℕ) → bit_and a b / 2 ^ n % 2 ^ 2 ≡ bit_and (a / 2 ^ n % 2 ^ 2) (b / 2 ^ n % 2 ^ 2) =
    λ n. ap (λ d. d % 2 ^ 2) (and_shr a b n) ∙ and_mod (a / 2 ^ n) (b / 2 ^ n) 2 in
    below_four P (at 0) (at 2) (at 4) (at 6) k h

or_digit : (a b k : ℕ) → k < 4 → bit_or a b / 4 ^ k % 4 ≡ bit_or (a / 4 ^ k % 4) (b / 4 ^ k % 4)
or_digit a b k h =
    let P : ℕ → Type 0 = λ j. bit_or a b / 4 ^ j % 4 ≡ bit_or (a / 4 ^ j % 4) (b / 4 ^ j % 4) in
    let at : (n : ℕ) → bit_or a b / 2 ^ n % 2 ^ 2 ≡ bit_or (a / 2 ^ n % 2 ^ 2) (b / 2 ^ n % 2 ^ 2) =
    λ n. ap (λ d. d % 2 ^ 2) (or_shr a b n) ∙ or_mod (a / 2 ^ n) (b / 2 ^ n) 2 in
    below_four P (at 0) (at 2) (at 4) (at 6) k h

not_digit : (mask k : ℕ) → mask < 256 → k < 4 → (255 - mask) / 4 ^ k % 4 ≡ 3 - mask / 4 ^ k % 4
not_digit mask k small h =
    let P : ℕ → Type 0 = λ j. (255 - mask) / 4 ^ j % 4 ≡ 3 - mask / 4 ^ j % 4 in
    below_four P (omega arith) (omega arith) (omega arith) (omega arith) k h

-- of two digits the mask's digit 3 chooses the second, 0 the first
mixed_digit : (digit mask index : ℕ) → digit < 4 → index < 4 → (mask ≡ 3) ⊎ (mask ≡ 0)
    → bit_or (bit_and digit (3 - mask)) (bit_and index mask) ≡ (if mask == 3 then index else digit)
mixed_digit digit mask index hd hi (inl e) =
    let first : bit_and digit 0 ≡ 0 = and_zero_r digit in
    let second : bit_and index 3 ≡ index = and_mask index 2 ∙ omega arith in
    rw (e, first, second) refl
mixed_digit digit mask index hd hi (inr e) =
    let first : bit_and digit 3 ≡ digit = and_mask digit 2 ∙ omega arith in
    let second : bit_and index 0 ≡ 0 = and_zero_r index in
    rw (e, first, second) (or_zero_r digit)

pub masked_digit : (byte mask fill index k : ℕ) → mask < 256 → k < 4
    → fill / 4 ^ k % 4 ≡ index → (mask / 4 ^ k % 4 ≡ 3) ⊎ (mask / 4 ^ k % 4 ≡ 0)
    → bit_or (bit_and byte (255 - mask)) (bit_and fill mask) / 4 ^ k % 4
    ≡ (if mask / 4 ^ k % 4 == 3 then index else byte / 4 ^ k % 4)
masked_digit byte mask fill index k small hk is_filled each =
    let hi : index < 4 = omega arith in
    rw (
      or_digit (bit_and byte (255 - mask)) (bit_and fill mask) k hk,
      and_digit byte (255 - mask) k hk,
      and_digit fill mask k hk,
      not_digit mask k small hk,
      is_filled,
    )
    (mixed_digit (byte / 4 ^ k % 4) (mask / 4 ^ k % 4) index (omega arith) hi each)

-- the masks of the digits from `low` on, and of those below `high`
low_digit : (low k : ℕ) → low < 4 → k < 4
    → 255 * 2 ^ (2 * low) % 256 / 4 ^ k % 4 ≡ (if nat_le low k then 3 else 0)
low_digit low k hl hk =
    let Q : ℕ → ℕ → Type 0 = λ l j. 255 * 2 ^ (2 * l) % 256 / 4 ^ j % 4 ≡ (if nat_le l j then 3 else 0) in
    let each : (l : ℕ) → Q l 0 → Q l 1 → Q l 2 → Q l 3 → Q l k = λ l a b c d. below_four (Q l) a b c d k hk in
    below_four (λ l. Q l k) (each 0 refl refl refl refl) (each 1 refl refl refl refl)
    (each 2 refl refl refl refl)
    (each 3 refl refl refl refl) low hl

high_digit : (high k : ℕ) → high < 4 → k < 4
    → 255 / 2 ^ (8 - 2 * (high + 1)) / 4 ^ k % 4 ≡ (if nat_lt k (high + 1) then 3 else 0)
high_digit high k hh hk =
    let Q : ℕ → ℕ → Type 0 = λ h j. 255 / 2 ^ (8 - 2 * (h + 1)) / 4 ^ j % 4
    ≡ (if nat_lt j (h + 1) then 3 else 0) in
    let each : (h : ℕ) → Q h 0 → Q h 1 → Q h 2 → Q h 3 → Q h k = λ h a b c d. below_four (Q h) a b c d k hk in
    below_four (λ h. Q h k) (each 0 refl refl refl refl) (each 1 refl refl refl refl)
    (each 2 refl refl refl refl)
    (each 3 refl refl refl refl) high hh

both_digits : (a b : Bool) → bit_and (if a then 3 else 0) (if b then 3 else 0) ≡ (if a && b then 3 else 0)
both_digits true true = refl
both_digits true false = refl
both_digits false b = refl

pub span_digit : (low high k : ℕ) → low < 4 → 1 ≤ high → high ≤ 4 → k < 4
    → bit_and (255 * 2 ^ (2 * low) % 256) (255 / 2 ^ (8 - 2 * high)) / 4 ^ k % 4
    ≡ (if nat_le low k && nat_lt k high then 3 else 0)
span_digit low high k hl some hh hk =
    let up : high - 1 + 1 ≡ high = omega arith in
    let below : 255 / 2 ^ (8 - 2 * high) / 4 ^ k % 4 ≡ (if nat_lt k high then 3 else 0) =
    subst (λ (n : ℕ). 255 / 2 ^ (8 - 2 * n) / 4 ^ k % 4 ≡ (if nat_lt k n then 3 else 0)) up
    (high_digit (high - 1) k (omega arith) hk) in
    rw (and_digit (255 * 2 ^ (2 * low) % 256) (255 / 2 ^ (8 - 2 * high)) k hk, low_digit low k hl hk, below)
    (both_digits (nat_le low k) (nat_lt k high))
