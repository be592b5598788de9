-- The digits of words in another order, and their bits as masks.
use Rattle.std.proofs.Common.{◌≡◌, ℕ, ◌+◌, ◌-◌, ◌*◌, ◌/◌, ◌%◌, ◌^◌, ◌<◌, true, ◌||◌, bit_and, bit_xor, refl}
use Rattle.std.proofs.Common.{◌∙◌, ap, arith}
use Rattle.std.specs.Prelude.{◌==◌, nat_le, if◌then◌else◌}
use Rattle.std.specs.Int.{bit_at}
use Rattle.std.proofs.lemmas.Nat.{shr-shr}
use Rattle.std.proofs.lemmas.Nat.Bits.{bit_at-lt}
use Rattle.w4_blit.specs.Strips.{Swaps, partner}
use Rattle.w4_blit.proofs.StripLaws.{below_sixteen, digit_bits, first_bit, other_bit}

-- ---- digits that change places

pub swaps_one : Swaps 1 3435973836
swaps_one k hk =
    let P : ℕ → Type 0 = λ k. (partner 1 k < 16)
    × (3435973836 / 4 ^ k % 4 ≡ (if k / 1 % 2 == 0 then 0 else 3))
    × ((k / 1 % 2 == 0 || nat_le 1 k) ≡ true) in
    below_sixteen P
    (omega arith, refl, refl)
    (omega arith, refl, refl)
    (omega arith, refl, refl)
    (omega arith, refl, refl)
    (omega arith, refl, refl)
    (omega arith, refl, refl)
    (omega arith, refl, refl)
    (omega arith, refl, refl)
    (omega arith, refl, refl)
    (omega arith, refl, refl)
    (omega arith, refl, refl)
    (omega arith, refl, refl)
    (omega arith, refl, refl)
    (omega arith, refl, refl)
    (omega arith, refl, refl)
    (omega arith, refl, refl)
    k hk

pub swaps_two : Swaps 2 4042322160
swaps_two k hk =
    let P : ℕ → Type 0 = λ k. (partner 2 k < 16)
    × (4042322160 / 4 ^ k % 4 ≡ (if k / 2 % 2 == 0 then 0 else 3))
    × ((k / 2 % 2 == 0 || nat_le 2 k) ≡ true) in
    below_sixteen P
    (omega arith, refl, refl)
    (omega arith, refl, refl)
    (omega arith, refl, refl)
    (omega arith, refl, refl)
    (omega arith, refl, refl)
    (omega arith, refl, refl)
    (omega arith, refl, refl)
    (omega arith, refl, refl)
    (omega arith, refl, refl)
    (omega arith, refl, refl)
    (omega arith, refl, refl)
    (omega arith, refl, refl)
    (omega arith, refl, refl)
    (omega arith, refl, refl)
    (omega arith, refl, refl)
    (omega arith, refl, refl)
    k hk

pub swaps_four : Swaps 4 4278255360
swaps_four k hk =
    let P : ℕ → Type 0 = λ k. (partner 4 k < 16)
    × (4278255360 / 4 ^ k % 4 ≡ (if k / 4 % 2 == 0 then 0 else 3))
    × ((k / 4 % 2 == 0 || nat_le 4 k) ≡ true) in
    below_sixteen P
    (omega arith, refl, refl)
    (omega arith, refl, refl)
    (omega arith, refl, refl)
    (omega arith, refl, refl)
    (omega arith, refl, refl)
    (omega arith, refl, refl)
    (omega arith, refl, refl)
    (omega arith, refl, refl)
    (omega arith, refl, refl)
    (omega arith, refl, refl)
    (omega arith, refl, refl)
    (omega arith, refl, refl)
    (omega arith, refl, refl)
    (omega arith, refl, refl)
    (omega arith, refl, refl)
    (omega arith, refl, refl)
    k hk

pub swaps_eight : Swaps 8 4294901760
swaps_eight k hk =
    let P : ℕ → Type 0 = λ k. (partner 8 k < 16)
    × (4294901760 / 4 ^ k % 4 ≡ (if k / 8 % 2 == 0 then 0 else 3))
    × ((k / 8 % 2 == 0 || nat_le 8 k) ≡ true) in
    below_sixteen P
    (omega arith, refl, refl)
    (omega arith, refl, refl)
    (omega arith, refl, refl)
    (omega arith, refl, refl)
    (omega arith, refl, refl)
    (omega arith, refl, refl)
    (omega arith, refl, refl)
    (omega arith, refl, refl)
    (omega arith, refl, refl)
    (omega arith, refl, refl)
    (omega arith, refl, refl)
    (omega arith, refl, refl)
    (omega arith, refl, refl)
    (omega arith, refl, refl)
    (omega arith, refl, refl)
    (omega arith, refl, refl)
    k hk

pub other_end : (k : ℕ) → k < 16 → partner 1 (partner 2 (partner 4 (partner 8 k))) ≡ 15 - k
other_end k hk =
    let P : ℕ → Type 0 = λ k. partner 1 (partner 2 (partner 4 (partner 8 k))) ≡ 15 - k in
    below_sixteen P refl refl refl refl refl refl refl refl refl refl refl refl refl refl refl refl k hk

-- ---- the bits of digits

even_off : (k : ℕ) → k < 16 → bit_at 2863311530 (2 * k) ≡ 0
even_off k hk =
    let P : ℕ → Type 0 = λ k. bit_at 2863311530 (2 * k) ≡ 0 in
    below_sixteen P refl refl refl refl refl refl refl refl refl refl refl refl refl refl refl refl k hk

odd_on : (k : ℕ) → k < 16 → bit_at 2863311530 (2 * k + 1) ≡ 1
odd_on k hk =
    let P : ℕ → Type 0 = λ k. bit_at 2863311530 (2 * k + 1) ≡ 1 in
    below_sixteen P refl refl refl refl refl refl refl refl refl refl refl refl refl refl refl refl k hk

even_on : (k : ℕ) → k < 16 → bit_at 1431655765 (2 * k) ≡ 1
even_on k hk =
    let P : ℕ → Type 0 = λ k. bit_at 1431655765 (2 * k) ≡ 1 in
    below_sixteen P refl refl refl refl refl refl refl refl refl refl refl refl refl refl refl refl k hk

odd_off : (k : ℕ) → k < 16 → bit_at 1431655765 (2 * k + 1) ≡ 0
odd_off k hk =
    let P : ℕ → Type 0 = λ k. bit_at 1431655765 (2 * k + 1) ≡ 0 in
    below_sixteen P refl refl refl refl refl refl refl refl refl refl refl refl refl refl refl refl k hk

bit_up : (n k : ℕ) → k < 16 → bit_at (n * 2 % 4294967296) (2 * k + 1) ≡ bit_at n (2 * k)
bit_up n k hk =
    let P : ℕ → Type 0 = λ k. bit_at (n * 2 % 4294967296) (2 * k + 1) ≡ bit_at n (2 * k) in
    below_sixteen P (omega arith) (omega arith) (omega arith) (omega arith) (omega arith) (omega arith)
    (omega arith) (omega arith) (omega arith) (omega arith) (omega arith) (omega arith) (omega arith)
    (omega arith) (omega arith) (omega arith) k hk

bit_down : (n k : ℕ) → bit_at (n / 2) (2 * k) ≡ bit_at n (2 * k + 1)
bit_down n k =
    let sum : 1 + 2 * k ≡ 2 * k + 1 = omega arith in
    ap (λ (m : ℕ). m % 2) (shr-shr n 1 (2 * k)) ∙ ap (λ (i : ℕ). n / 2 ^ i % 2) sum

three_low : (d p q : ℕ) → p < 2 → d ≡ p + 2 * q → p + 2 * p ≡ 3 * (d % 2)
three_low d p q hp e = omega arith

three_high : (d p q : ℕ) → p < 2 → q < 2 → d ≡ p + 2 * q → q + 2 * q ≡ 3 * (d / 2)
three_high d p q hp hq e = omega arith

pub low_both : (n k : ℕ) → k < 16
    → bit_xor n (bit_and 2863311530 (bit_xor n (n * 2 % 4294967296))) / 4 ^ k % 4 ≡ 3 * (n / 4 ^ k % 4 % 2)
low_both n k hk =
    let moved = n * 2 % 4294967296 in
    let word = bit_xor n (bit_and 2863311530 (bit_xor n moved)) in
    digit_bits word k
    ∙ ap (λ (b : ℕ). b + 2 * bit_at word (2 * k + 1)) (first_bit 2863311530 n moved (2 * k) (even_off k hk))
    ∙ ap (λ (b : ℕ). bit_at n (2 * k) + 2 * b)
    (other_bit 2863311530 n moved (2 * k + 1) (odd_on k hk) ∙ bit_up n k hk)
    ∙ three_low (n / 4 ^ k % 4) (bit_at n (2 * k)) (bit_at n (2 * k + 1)) (bit_at-lt n (2 * k)) (digit_bits
    n k)

pub high_both : (n k : ℕ) → k < 16
    → bit_xor n (bit_and 1431655765 (bit_xor n (n / 2))) / 4 ^ k % 4 ≡ 3 * (n / 4 ^ k % 4 / 2)
high_both n k hk =
    let moved = n / 2 in
    let word = bit_xor n (bit_and 1431655765 (bit_xor n moved)) in
    digit_bits word k
    ∙ ap (λ (b : ℕ). b + 2 * bit_at word (2 * k + 1))
    (other_bit 1431655765 n moved (2 * k) (even_on k hk) ∙ bit_down n k)
    ∙ ap (λ (b : ℕ). bit_at n (2 * k + 1) + 2 * b) (first_bit 1431655765 n moved (2 * k + 1) (odd_off k hk))
    ∙ three_high (n / 4 ^ k % 4) (bit_at n (2 * k)) (bit_at n (2 * k + 1)) (bit_at-lt n (2 * k))
    (bit_at-lt n (2 * k + 1)) (digit_bits n k)

pub high_of_digit : (n : ℕ) → 3 * (n % 4 / 2) ≡ 3 * (n % 4 / 2 % 2)
high_of_digit n = omega arith
