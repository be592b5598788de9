-- The shortest encodings of numbers: a byte at a time, and that they encode the number.
use Rattle.std.proofs.Common.{◌≡◌, ℕ, zero, suc, ◌+◌, ◌-◌, ◌*◌, ◌/◌, ◌%◌, ◌^◌, ◌<◌, ◌≤◌, Bool, true, false}
use Rattle.std.proofs.Common.{nat_lt, nat_le, inl, inr, List, [], ◌∷◌, ◌++◌, ◌⊎◌, append_assoc, refl, ap, sym}
use Rattle.std.proofs.Common.{◌∙◌, arith}
use Rattle.std.proofs.lemmas.Bool.{cases_lt, lt-ltb, ltb-true, le-leb, leb-true, le-ltb}
use Rattle.std.proofs.lemmas.Nat.{pow-add}
use Rattle.std.proofs.Math.Pow.{pow_mono}
use Rattle.w4_defs.specs.BinaryNumber.{LastSigned, unsigned, signed}
use Rattle.w4_defs.specs.EncodeNumber.{unsigned_in, unsigned_bytes, is_last, last_byte, signed_in}
use Rattle.w4_defs.specs.EncodeNumber.{signed_bytes}

-- ---- unsigned numbers

unsigned_in-last : (turns n : ℕ) → n < 128 → unsigned_in (suc turns) n ≡ n ∷ []
unsigned_in-last turns n h =
    let low : nat_lt n 128 ≡ true = lt-ltb n 128 h in
    rw low

unsigned_in-more : (turns n : ℕ) → 128 ≤ n
    → unsigned_in (suc turns) n ≡ (n % 128 + 128) ∷ unsigned_in turns (n / 128)
unsigned_in-more turns n h =
    let high : nat_lt n 128 ≡ false = le-ltb n 128 h in
    rw high

same_unsigned : (j k n : ℕ) → n < j → n < k → unsigned_in j n ≡ unsigned_in k n
same_unsigned zero k n hj hk = absurd (omega arith)
same_unsigned (suc j) zero n hj hk = absurd (omega arith)
same_unsigned (suc j) (suc k) n hj hk =
    elim (cases_lt n 128) [
      | inl h ↦ unsigned_in-last j n h ∙ sym (unsigned_in-last k n h)
      | inr h ↦
          let fewer : n / 128 < j = omega arith in
          let fewer_too : n / 128 < k = omega arith in
          unsigned_in-more j n h
          ∙ ap (λ bs. (n % 128 + 128) ∷ bs) (same_unsigned j k (n / 128) fewer fewer_too)
          ∙ sym (unsigned_in-more k n h)
    ]

pub unsigned-last : (n : ℕ) → n < 128 → unsigned_bytes n ≡ n ∷ []
unfolding unsigned_bytes
unsigned-last n h = unsigned_in-last n n h

pub unsigned-more : (n : ℕ) → 128 ≤ n → unsigned_bytes n ≡ (n % 128 + 128) ∷ unsigned_bytes (n / 128)
unfolding unsigned_bytes
unsigned-more n h =
    let less : n / 128 < n = omega arith in
    unsigned_in-more n n h
    ∙ ap (λ bs. (n % 128 + 128) ∷ bs) (same_unsigned n (suc (n / 128)) (n / 128) less (omega arith))

seven_more : (w : ℕ) → 7 < w → 2 ^ w ≡ 128 * 2 ^ (w - 7)
seven_more w h =
    let e : w ≡ 7 + (w - 7) = omega arith in
    ap (λ k. 2 ^ k) e ∙ pow-add 2 7 (w - 7)

wide_enough : (w n : ℕ) → n < 2 ^ w → 128 ≤ n → 7 < w
wide_enough w n fits high =
    elim (cases_lt 7 w) [
      | inl h ↦ h
      | inr h ↦ let p : 2 ^ w ≤ 2 ^ 7 = pow_mono h in absurd (omega arith)
    ]

unsigned_in_encodes : (turns w n : ℕ) → n < turns → n < 2 ^ w → unsigned w n (unsigned_in turns n)
unsigned_in_encodes zero w n enough fits = absurd (omega arith)
unsigned_in_encodes (suc turns) w n enough fits =
    elim (cases_lt n 128) [
      | inl h ↦ rw (unsigned_in-last turns n h) (inl (refl, (h, fits, refl)))
      | inr h ↦
          let wide : 7 < w = wide_enough w n fits h in
          let less : n / 128 < 2 ^ (w - 7) = omega (arith, seven_more w wide) in
          rw (unsigned_in-more turns n h)
          (inr (
            omega arith,
            wide,
            n / 128,
            omega arith,
            unsigned_in_encodes turns (w - 7) (n / 128)
                (omega arith) less,
          ))
    ]

pub unsigned_encodes : (w n : ℕ) → n < 2 ^ w → unsigned w n (unsigned_bytes n)
unfolding unsigned_bytes
unsigned_encodes w n fits = unsigned_in_encodes (suc n) w n (omega arith) fits

-- ---- signed numbers

signed_in-last : (turns w n : ℕ) → is_last w n ≡ true → signed_in (suc turns) w n ≡ last_byte w n ∷ []
signed_in-last turns w n h = rw h

signed_in-more : (turns w n : ℕ) → is_last w n ≡ false
    → signed_in (suc turns) w n ≡ (n % 128 + 128) ∷ signed_in turns (w - 7) (n / 128)
signed_in-more turns w n h = rw h

pub bool_cases : (b : Bool) → (b ≡ true) ⊎ (b ≡ false)
bool_cases true = inl refl
bool_cases false = inr refl

pub is_last-low : (w n : ℕ) → 2 * n < 2 ^ w → is_last w n ≡ nat_lt n 64
is_last-low w n h =
    let t : nat_lt (2 * n) (2 ^ w) ≡ true = lt-ltb (2 * n) (2 ^ w) h in
    rw t

pub is_last-high : (w n : ℕ) → 2 ^ w ≤ 2 * n → is_last w n ≡ nat_le (2 ^ w) (n + 64)
is_last-high w n h =
    let t : nat_lt (2 * n) (2 ^ w) ≡ false = le-ltb (2 * n) (2 ^ w) h in
    rw t

last_of_few : (w n : ℕ) → w ≤ 7 → n < 2 ^ w → is_last w n ≡ true
last_of_few w n few fits =
    let p : 2 ^ w ≤ 2 ^ 7 = pow_mono few in
    elim (cases_lt (2 * n) (2 ^ w)) [
      | inl h ↦ is_last-low w n h ∙ lt-ltb n 64 (omega arith)
      | inr h ↦ is_last-high w n h ∙ le-leb (2 ^ w) (n + 64) (omega arith)
    ]

-- what isn't the last byte has more than seven bits
pub more_than_seven : (w n : ℕ) → n < 2 ^ w → is_last w n ≡ false → 7 < w
more_than_seven w n fits more =
    elim (cases_lt 7 w) [
      | inl h ↦ h
      | inr h ↦ let last = last_of_few w n h fits in absurd cc
    ]

pub rest_fits : (w n : ℕ) → 7 < w → n < 2 ^ w → n / 128 < 2 ^ (w - 7)
rest_fits w n wide fits = omega (arith, seven_more w wide)

same_signed : (j k w n : ℕ) → w < j → w < k → n < 2 ^ w → signed_in j w n ≡ signed_in k w n
same_signed zero k w n hj hk fits = absurd (omega arith)
same_signed (suc j) zero w n hj hk fits = absurd (omega arith)
same_signed (suc j) (suc k) w n hj hk fits =
    elim (bool_cases (is_last w n)) [
      | inl h ↦ signed_in-last j w n h ∙ sym (signed_in-last k w n h)
      | inr h ↦
          let wide : 7 < w = more_than_seven w n fits h in
          signed_in-more j w n h
          ∙ ap (λ bs. (n % 128 + 128) ∷ bs)
          (same_signed j k (w - 7) (n / 128) (omega arith) (omega arith) (rest_fits w n wide fits))
          ∙ sym (signed_in-more k w n h)
    ]

pub signed-last : (w n : ℕ) → is_last w n ≡ true → signed_bytes w n ≡ last_byte w n ∷ []
unfolding signed_bytes
signed-last w n h = signed_in-last w w n h

pub signed-more : (w n : ℕ) → n < 2 ^ w → is_last w n ≡ false
    → signed_bytes w n ≡ (n % 128 + 128) ∷ signed_bytes (w - 7) (n / 128)
unfolding signed_bytes
signed-more w n fits h =
    let wide : 7 < w = more_than_seven w n fits h in
    signed_in-more w w n h
    ∙ ap (λ bs. (n % 128 + 128) ∷ bs)
    (same_signed w (suc (w - 7)) (w - 7) (n / 128) (omega arith) (omega arith)
    (rest_fits w n wide fits))

last_encodes : (w n : ℕ) → n < 2 ^ w → is_last w n ≡ true → LastSigned w (last_byte w n) n
last_encodes w n fits last =
    elim (cases_lt (2 * n) (2 ^ w)) [
      | inl h ↦
          let t : nat_lt (2 * n) (2 ^ w) ≡ true = lt-ltb (2 * n) (2 ^ w) h in
          let few : n < 64 = ltb-true n 64 (sym (is_last-low w n h) ∙ last) in
          rw t (inl (few, h, refl))
      | inr h ↦
          let t : nat_lt (2 * n) (2 ^ w) ≡ false = le-ltb (2 * n) (2 ^ w) h in
          let near : 2 ^ w ≤ n + 64 = leb-true (2 ^ w) (n + 64) (sym (is_last-high w n h) ∙ last) in
          rw t (inr (omega arith, omega arith, omega arith, omega arith))
    ]

signed_in_encodes : (turns w n : ℕ) → w < turns → n < 2 ^ w → signed w n (signed_in turns w n)
signed_in_encodes zero w n enough fits = absurd (omega arith)
signed_in_encodes (suc turns) w n enough fits =
    elim (bool_cases (is_last w n)) [
      | inl h ↦ rw (signed_in-last turns w n h) (inl (refl, last_encodes w n fits h))
      | inr h ↦
          let wide : 7 < w = more_than_seven w n fits h in
          rw
          (signed_in-more turns w n h)
          (inr (
            omega arith,
            wide,
            n / 128,
            omega arith,
            signed_in_encodes turns (w - 7) (n / 128)
                (omega arith) (rest_fits w n wide fits),
          ))
    ]

pub signed_encodes : (w n : ℕ) → n < 2 ^ w → signed w n (signed_bytes w n)
unfolding signed_bytes
signed_encodes w n fits = signed_in_encodes (suc w) w n (omega arith) fits

-- ---- what a loop has written so far

pub unsigned_byte : (bs : List ℕ) (n : ℕ) → 128 ≤ n
    → (bs ++ (n % 128 + 128) ∷ []) ++ unsigned_bytes (n / 128) ≡ bs ++ unsigned_bytes n
unsigned_byte bs n h = append_assoc bs ((n % 128 + 128) ∷ []) (unsigned_bytes (n / 128))
    ∙ ap (λ s. bs ++ s) (sym (unsigned-more n h))

pub signed_byte : (bs : List ℕ) (w n : ℕ) → n < 2 ^ w → is_last w n ≡ false
    → (bs ++ (n % 128 + 128) ∷ []) ++ signed_bytes (w - 7) (n / 128) ≡ bs ++ signed_bytes w n
signed_byte bs w n fits h =
    append_assoc bs ((n % 128 + 128) ∷ []) (signed_bytes (w - 7) (n / 128))
    ∙ ap (λ s. bs ++ s) (sym (signed-more w n fits h))
