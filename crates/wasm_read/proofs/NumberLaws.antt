-- Numbers are read exactly.
use Rattle.std.proofs.Common.{◌≡◌, ℕ, ◌+◌, ◌-◌, ◌*◌, ◌^◌, ◌<◌, ◌≤◌, true, false, if◌then◌else◌, nat_lt}
use Rattle.std.proofs.Common.{nat_le, inl, inr, List, [], ◌∷◌, ◌++◌, Option, Some, None, refl, ap, sym, ◌∙◌}
use Rattle.std.proofs.Common.{arith}
use Rattle.std.proofs.lemmas.Bool.{ltb-true, lt-ltb, le-leb, leb-true, le-ltb}
use Rattle.std.proofs.lemmas.Bool.Decides.{nat_tests}
use Rattle.w4_defs.specs.Reading.{◌>>=◌}
use Rattle.w4_defs.specs.BinaryNumber.{leb, LastUnsigned, LastSigned, unsigned, signed}
use Rattle.w4_defs.proofs.OptionLaws.{bind_some, held_if}
use Rattle.wasm_read.specs.Reader.{read_as, Takes, Reads}
use Rattle.wasm_read.specs.ReadNumber.{last_unsigned, last_signed, with_low_bits, leb_at, unsigned_at}
use Rattle.wasm_read.specs.ReadNumber.{signed_at}
use Rattle.wasm_read.proofs.Basics.{split_if, same_read}

-- the last byte is judged as the grammar has it
pub record IsLast (Last : ℕ → ℕ → ℕ → Type 0) (last : ℕ → ℕ → Option ℕ) : Type 0 where
  pub sound : (w b n : ℕ) → b < 128 → last w b ≡ Some n → Last w b n
  pub low : (w b n : ℕ) → Last w b n → b < 128
  pub complete : (w b n : ℕ) → Last w b n → last w b ≡ Some n

not_below : (a b : ℕ) → nat_lt a b ≡ false → b ≤ a
not_below a b h = grind (arith, nat_tests)

joined_sound : (Last : ℕ → ℕ → ℕ → Type 0) (w b n : ℕ) (bs rest : List ℕ) (high : ℕ × List ℕ) → 128 ≤ b
    → 7 < w → Some (with_low_bits b high) ≡ read_as n rest
    → Takes (leb Last (w - 7)) bs high.0 high.1 → Takes (leb Last w) (b ∷ bs) n rest
joined_sound Last w b n bs rest high up wide e t =
    let same = same_read (b - 128 + 128 * high.0) n high.1 rest e in
    let sum : n + 128 ≡ b + 128 * high.0 = omega (arith, same.0) in
    (b ∷ t.0, ap (λ xs. b ∷ xs) (t.1 ∙ ap (λ r. t.0 ++ r) same.1), inr (up, wide, high.0, sum, t.2))

leb_sound : (Last : ℕ → ℕ → ℕ → Type 0) (last : ℕ → ℕ → Option ℕ) → IsLast Last last
    → (w : ℕ) (bytes : List ℕ) (n : ℕ) (rest : List ℕ)
    → leb_at last w bytes ≡ Some (n, rest) → Takes (leb Last w) bytes n rest
leb_sound Last last is w [] n rest e = absurd cc
leb_sound Last last is w (b ∷ bs) n rest e =
    elim (split_if (nat_lt b 128) (last w b >>= λ m. read_as m bs)
    (if nat_lt 7 w then (leb_at last (w - 7) bs >>= λ high. Some (with_low_bits b high)) else None)
    (read_as n rest) e) [
      | inl h ↦
          let s = bind_some (last w b) (λ m. read_as m bs) (n, rest) h.1 in
          let same = same_read s.0 n bs rest s.2 in (
            b ∷ [],
            ap (λ r. b ∷ r) same.1,
            inl (refl, is.sound w b n (ltb-true b 128 h.0) (s.1 ∙ ap (λ m. Some m) same.0)),
          )
      | inr h ↦
          let wide = held_if (nat_lt 7 w) (leb_at last (w - 7) bs >>= λ high. Some (with_low_bits b high))
          (n, rest) h.1 in
          let s = bind_some (leb_at last (w - 7) bs) (λ high. Some (with_low_bits b high)) (n, rest) wide.1 in
          joined_sound Last w b n bs rest s.0 (not_below b 128 h.0) (ltb-true 7 w wide.0) s.2
          (leb_sound Last last is (w - 7) bs s.0.0 s.0.1 s.1)
    ]

leb_complete : (Last : ℕ → ℕ → ℕ → Type 0) (last : ℕ → ℕ → Option ℕ) → IsLast Last last
    → (w : ℕ) (text rest : List ℕ) (n : ℕ)
    → leb Last w n text → leb_at last w (text ++ rest) ≡ Some (n, rest)
leb_complete Last last is w [] rest n h = absurd h
leb_complete Last last is w (b ∷ bs) rest n (inl (e, h)) =
    let low : nat_lt b 128 ≡ true = lt-ltb b 128 (is.low w b n h) in
    rw (low, is.complete w b n h) (ap (λ xs. Some (n, xs ++ rest)) e)
leb_complete Last last is w (b ∷ bs) rest n (inr (up, wide, m, sum, h)) =
    let high : nat_lt b 128 ≡ false = le-ltb b 128 up in
    let is_wide : nat_lt 7 w ≡ true = lt-ltb 7 w wide in
    let value : b - 128 + 128 * m ≡ n = omega arith in
    rw (high, is_wide, leb_complete Last last is (w - 7) bs rest m h) (ap (λ k. Some (k, rest)) value)

unsigned_last : IsLast LastUnsigned last_unsigned
unsigned_last = record {
  sound = λ w b n low e. let s = held_if (nat_lt b (2 ^ w)) (Some b) n e in (low, ltb-true b (2 ^ w) s.0, cc);
  low = λ w b n h. h.0;
  complete = λ w b n h. let lt : nat_lt b (2 ^ w) ≡ true = lt-ltb b (2 ^ w) h.1 in
      rw lt (ap (λ k. Some k) (sym h.2));
}

signed_sound : (w b n : ℕ) → b < 128 → last_signed w b ≡ Some n → LastSigned w b n
signed_sound w b n low e =
    elim (split_if (nat_lt b 64) (if nat_lt (2 * b) (2 ^ w) then Some b else None)
    (if nat_le 256 (2 * b + 2 ^ w) then Some (b + 2 ^ w - 128) else None) (Some n) e) [
      | inl h ↦
          let s = held_if (nat_lt (2 * b) (2 ^ w)) (Some b) n h.1 in
          inl (ltb-true b 64 h.0, ltb-true (2 * b) (2 ^ w) s.0, cc)
      | inr h ↦
          let s = held_if (nat_le 256 (2 * b + 2 ^ w)) (Some (b + 2 ^ w - 128)) n h.1 in
          let least : 256 ≤ 2 * b + 2 ^ w = leb-true 256 (2 * b + 2 ^ w) s.0 in
          let same : b + 2 ^ w - 128 ≡ n = cc in
          inr (not_below b 64 h.0, low, least, omega arith)
    ]

signed_complete : (w b n : ℕ) → LastSigned w b n → last_signed w b ≡ Some n
signed_complete w b n (inl (low, fits, e)) =
    let first : nat_lt b 64 ≡ true = lt-ltb b 64 low in
    let second : nat_lt (2 * b) (2 ^ w) ≡ true = lt-ltb (2 * b) (2 ^ w) fits in
    rw (first, second) (ap (λ k. Some k) (sym e))
signed_complete w b n (inr (up, low, fits, e)) =
    let first : nat_lt b 64 ≡ false = le-ltb b 64 up in
    let second : nat_le 256 (2 * b + 2 ^ w) ≡ true = le-leb 256 (2 * b + 2 ^ w) fits in
    let value : b + 2 ^ w - 128 ≡ n = omega arith in
    rw (first, second) (ap (λ k. Some k) value)

signed_low : (w b n : ℕ) → LastSigned w b n → b < 128
signed_low w b n (inl (low, fits, e)) = omega arith
signed_low w b n (inr (up, low, fits, e)) = low

signed_last : IsLast LastSigned last_signed
signed_last = record { sound = signed_sound; low = signed_low; complete = signed_complete }

pub unsigned_reads : (w : ℕ) → Reads (unsigned w) (unsigned_at w)
unfolding unsigned_at
unsigned_reads w =
    record {
      sound = leb_sound LastUnsigned last_unsigned unsigned_last w;
      complete =
          leb_complete LastUnsigned last_unsigned unsigned_last w;
    }

pub signed_reads : (w : ℕ) → Reads (signed w) (signed_at w)
unfolding signed_at
signed_reads w = record {
  sound = leb_sound LastSigned last_signed signed_last w;
  complete =
      leb_complete LastSigned last_signed signed_last w;
}
