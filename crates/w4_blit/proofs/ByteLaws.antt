-- Numbers of four and eight bytes, the first byte the highest.
use Rattle.std.proofs.Common.{◌≡◌, ℕ, ◌+◌, ◌-◌, ◌*◌, ◌/◌, ◌%◌, ◌^◌, ◌<◌, [], ◌∷◌, get_or, sym, ◌∙◌, ap, arith}
use Rattle.w4_defs.proofs.PaintLaws.{below_four}
use Rattle.w4_blit.proofs.StripLaws.{below_eight, right_digit}

pub four_numbers : (a b c d i : ℕ) → a < 256 → b < 256 → c < 256 → d < 256 → i < 4
    → (d + 256 * (c + 256 * (b + 256 * a))) / 2 ^ (8 * i) % 256 ≡ get_or (d ∷ c ∷ b ∷ a ∷ []) i 0
four_numbers a b c d i ha hb hc hd hi =
    let P : ℕ → Type 0 = λ i. (d + 256 * (c + 256 * (b + 256 * a))) / 2 ^ (8 * i) % 256
    ≡ get_or (d ∷ c ∷ b ∷ a ∷ []) i 0 in
    below_four P (omega arith) (omega arith) (omega arith) (omega arith) i hi

-- eight bytes by their first and their second four
pub eight_numbers : (get : ℕ → ℕ) (first second i : ℕ) → second < 4294967296 → i < 8
    → ((j : ℕ) → j < 4 → first / 2 ^ (8 * j) % 256 ≡ get (3 - j))
    → ((j : ℕ) → j < 4 → second / 2 ^ (8 * j) % 256 ≡ get (7 - j))
    → (first * 4294967296 + second) / 2 ^ (8 * i) % 256 ≡ get (7 - i)
eight_numbers get first second i small hi high low =
    let word = first * 4294967296 + second in
    let P : ℕ → Type 0 = λ i. word / 2 ^ (8 * i) % 256 ≡ get (7 - i) in
    let e0 : word / 2 ^ (8 * 0) % 256 ≡ second / 2 ^ (8 * 0) % 256 = omega arith in
    let e1 : word / 2 ^ (8 * 1) % 256 ≡ second / 2 ^ (8 * 1) % 256 = omega arith in
    let e2 : word / 2 ^ (8 * 2) % 256 ≡ second / 2 ^ (8 * 2) % 256 = omega arith in
    let e3 : word / 2 ^ (8 * 3) % 256 ≡ second / 2 ^ (8 * 3) % 256 = omega arith in
    let e4 : word / 2 ^ (8 * 4) % 256 ≡ first / 2 ^ (8 * 0) % 256 = omega arith in
    let e5 : word / 2 ^ (8 * 5) % 256 ≡ first / 2 ^ (8 * 1) % 256 = omega arith in
    let e6 : word / 2 ^ (8 * 6) % 256 ≡ first / 2 ^ (8 * 2) % 256 = omega arith in
    let e7 : word / 2 ^ (8 * 7) % 256 ≡ first / 2 ^ (8 * 3) % 256 = omega arith in
    below_eight P (e0 ∙ low 0 (omega arith)) (e1 ∙ low 1 (omega arith)) (e2 ∙ low 2 (omega arith))
    (e3 ∙ low 3 (omega arith)) (e4 ∙ high 0 (omega arith)) (e5 ∙ high 1 (omega arith))
    (e6 ∙ high 2 (omega arith)) (e7 ∙ high 3 (omega arith)) i hi

digit_of_byte : (n m : ℕ) → m < 4 → n % 256 / 4 ^ m % 4 ≡ n / 4 ^ m % 4
digit_of_byte n m hm =
    let P : ℕ → Type 0 = λ m. n % 256 / 4 ^ m % 4 ≡ n / 4 ^ m % 4 in
    below_four P (omega arith) (omega arith) (omega arith) (omega arith) m hm

-- a digit of a word's byte
pub digit_at : (n i m k : ℕ) → m < 4 → k ≡ 4 * i + m → n / 4 ^ k % 4 ≡ n / 2 ^ (8 * i) % 256 / 4 ^ m % 4
digit_at n i m k hm e =
    let twice : 2 * (4 * i) ≡ 8 * i = omega arith in
    ap (λ (j : ℕ). n / 4 ^ j % 4) e ∙ sym (right_digit n (4 * i) m)
    ∙ ap (λ (s : ℕ). n / 2 ^ s / 4 ^ m % 4) twice ∙ sym (digit_of_byte (n / 2 ^ (8 * i)) m hm)
