-- The tables of a byte's bits as digits of two bits, entry by entry.
use Rattle.std.proofs.Common.{◌≡◌, ℕ, ◌+◌, ◌-◌, ◌*◌, ◌/◌, ◌%◌, ◌^◌, ◌<◌, List, map, get_or, refl, ◌∙◌, ap}
use Rattle.std.proofs.Common.{arith}
use Rattle.std.specs.List.{range_with_len}
use Rattle.std.proofs.lemmas.List.FromFn.{get_or-map-range_with_len}
use Rattle.w4_blit.specs.declared.spread.TheConstants.{SPREAD}
use Rattle.w4_blit.proofs.StripLaws.{below_eight}

eight_digits : (p0 p1 p2 p3 p4 p5 p6 p7 k : ℕ) → p0 < 2 → p1 < 2 → p2 < 2 → p3 < 2 → p4 < 2 → p5 < 2 → p6 < 2
    → p7 < 2 → k < 8
    → (P : ℕ → ℕ) → P 0 ≡ p0 → P 1 ≡ p1 → P 2 ≡ p2 → P 3 ≡ p3 → P 4 ≡ p4 → P 5 ≡ p5 → P 6 ≡ p6 → P 7 ≡ p7
    → (3 * p0 + 12 * p1 + 48 * p2 + 192 * p3 + 768 * p4 + 3072 * p5 + 12288 * p6 + 49152 * p7) / 4 ^ k % 4 ≡
    3 * P k
eight_digits p0 p1 p2 p3 p4 p5 p6 p7 k h0 h1 h2 h3 h4 h5 h6 h7 hk P e0 e1 e2 e3 e4 e5 e6 e7 =
    let Q : ℕ → Type 0 = λ k. (3 * p0 + 12 * p1 + 48 * p2 + 192 * p3 + 768 * p4 + 3072 * p5 + 12288 * p6 +
    49152 * p7) / 4 ^ k % 4 ≡ 3 * P k in
    below_eight Q (omega arith) (omega arith) (omega arith) (omega arith) (omega arith) (omega arith) (omega
    arith) (omega arith) k hk

spread_byte : ℕ → ℕ
spread_byte b = 3 * (b / 128 % 2) + 12 * (b / 64 % 2) + 48 * (b / 32 % 2) + 192 * (b / 16 % 2) + 768 * (b / 8
    % 2) + 3072 * (b / 4 % 2) + 12288 * (b / 2 % 2) + 49152 * (b / 1 % 2)

pub spread_entry : (b k : ℕ) → b < 256 → k < 8 → get_or SPREAD b 0 / 4 ^ k % 4 ≡ 3 * (b / 2 ^ (7 - k) % 2)
unfolding spread_byte
spread_entry b k hb hk =
    let table : SPREAD ≡ map spread_byte (range_with_len 0 256) = refl in
    ap (λ (t : List ℕ). get_or t b 0 / 4 ^ k % 4) table
    ∙ ap (λ (n : ℕ). n / 4 ^ k % 4) (get_or-map-range_with_len spread_byte 0 256 b b 0 hb (omega arith))
    ∙ eight_digits (b / 128 % 2) (b / 64 % 2) (b / 32 % 2) (b / 16 % 2) (b / 8 % 2) (b / 4 % 2) (b / 2 % 2)
    (b / 1 % 2) k (omega arith) (omega arith) (omega arith) (omega arith) (omega arith) (omega arith) (omega
    arith) (omega arith) hk (λ k. b / 2 ^ (7 - k) % 2)
    refl refl refl refl refl refl refl refl
