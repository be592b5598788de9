-- No encoding of a number has fewer bytes than the one that is written.
use Rattle.std.proofs.Common.{◌≡◌, ℕ, ◌+◌, ◌-◌, ◌*◌, ◌/◌, ◌^◌, ◌<◌, ◌≤◌, true, inl, inr, List, [], ◌∷◌}
use Rattle.std.proofs.Common.{length, ap, ◌∙◌, arith}
use Rattle.std.proofs.lemmas.Bool.{cases_lt, lt-ltb, le-leb}
use Rattle.w4_defs.specs.BinaryNumber.{LastSigned, unsigned, signed}
use Rattle.w4_defs.specs.EncodeNumber.{unsigned_bytes, is_last, signed_bytes}
use Rattle.wasm_write.specs.Laws.{AreBytes, UnsignedAreShortest, SignedAreShortest}
use Rattle.wasm_write.proofs.NumberLaws.{bool_cases, is_last-low, is_last-high, rest_fits, unsigned-last}
use Rattle.wasm_write.proofs.NumberLaws.{unsigned-more, unsigned_encodes, signed-last, signed-more}
use Rattle.wasm_write.proofs.NumberLaws.{signed_encodes}

unsigned_short : (w n : ℕ) (text : List ℕ) → AreBytes text → unsigned w n text
    → length (unsigned_bytes n) ≤ length text
unsigned_short w n [] bytes h = absurd h
unsigned_short w n (b ∷ bs) bytes (inl (e, h)) =
    let low : n < 128 = omega arith in
    omega (arith, ap length (unsigned-last n low))
unsigned_short w n (b ∷ bs) bytes (inr (up, wide, m, sum, h)) =
    elim (cases_lt n 128) [
      | inl low ↦ omega (arith, ap length (unsigned-last n low))
      | inr high ↦
          let rest : m ≡ n / 128 = omega (arith, bytes.0) in
          let short : length (unsigned_bytes m) ≤ length bs = unsigned_short (w - 7) m bs bytes.1 h in
          omega (arith, ap length (unsigned-more n high), ap (λ k. length (unsigned_bytes k)) rest)
    ]

last_is_last : (w b n : ℕ) → LastSigned w b n → is_last w n ≡ true
last_is_last w b n (inl (low, fits, e)) =
    let half : 2 * n < 2 ^ w = omega arith in
    is_last-low w n half ∙ lt-ltb n 64 (omega arith)
last_is_last w b n (inr (up, low, fits, e)) =
    let half : 2 ^ w ≤ 2 * n = omega arith in
    is_last-high w n half ∙ le-leb (2 ^ w) (n + 64) (omega arith)

signed_short : (w n : ℕ) (text : List ℕ) → n < 2 ^ w → AreBytes text → signed w n text
    → length (signed_bytes w n) ≤ length text
signed_short w n [] fits bytes h = absurd h
signed_short w n (b ∷ bs) fits bytes (inl (e, h)) =
    omega (arith, ap length (signed-last w n (last_is_last w b n h)))
signed_short w n (b ∷ bs) fits bytes (inr (up, wide, m, sum, h)) =
    elim (bool_cases (is_last w n)) [
      | inl last ↦ omega (arith, ap length (signed-last w n last))
      | inr more ↦
          let rest : m ≡ n / 128 = omega (arith, bytes.0) in
          let less : n / 128 < 2 ^ (w - 7) = rest_fits w n wide fits in
          let m_fits : m < 2 ^ (w - 7) = omega arith in
          let short : length (signed_bytes (w - 7) m) ≤ length bs =
          signed_short (w - 7) m bs m_fits bytes.1 h in
          omega (arith, ap length (signed-more w n fits more), ap (λ k. length (signed_bytes (w - 7) k)) rest)
    ]

pub unsigned_are_shortest : UnsignedAreShortest
unsigned_are_shortest w n fits = (unsigned_encodes w n fits, unsigned_short w n)

pub signed_are_shortest : SignedAreShortest
signed_are_shortest w n fits = (signed_encodes w n fits, λ text. signed_short w n text fits)
