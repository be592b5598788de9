-- A field that was written is read again, whatever follows it; a field that was read is what the bytes begin
-- with.
use Rattle.std.proofs.Common.{◌≡◌, ℕ, ◌+◌, ◌<◌, ◌^◌, Bool, true, false, ltb, cond, List, ◌++◌, length, take, drop, Option, Some, None, inl, inr, refl, ap, sym, ◌∙◌, subst, arith}
use Rattle.std.specs.Int.{Width, w16, w32, byte_len, from_le_bytes, to_le_bytes}
use Rattle.std.proofs.lemmas.Bool.{cases_lt, le-ltb, ltb-false}
use Rattle.std.proofs.lemmas.List.{take_at, drop_at, length-append, length-take, take-append-drop, get_or_append_left, get_or-append-add}
use Rattle.std.proofs.Math.ListN.{get_or-eq_default}
use Rattle.std.proofs.lemmas.Nat.{le_bytes_2, le_bytes_4}
use Rattle.w4_defs.specs.Reading.{IsBytes, front_at, little_endian_at}

pub front_again : (front rest : List ℕ) (n : ℕ) → length front ≡ n
    → front_at n (front ++ rest) ≡ Some (front, rest)
front_again front rest n len =
    let long : ltb (length (front ++ rest)) n
    ≡ false = le-ltb _ _ (omega (arith, len, length-append front rest)) in
    rw (long, take_at front rest n len, drop_at front rest n len) refl

pub number_again : (w : Width) (bytes rest : List ℕ) (n : ℕ) → length bytes ≡ byte_len w
    → from_le_bytes w bytes ≡ n → little_endian_at w (bytes ++ rest) ≡ Some (n, rest)
number_again w bytes rest n len value =
    let long : ltb (length (bytes ++ rest)) (byte_len w)
    ≡ false = le-ltb _ _ (omega (arith, len, length-append bytes rest)) in
    rw (long, take_at bytes rest (byte_len w) len, drop_at bytes rest (byte_len w) len, value) refl

abbrev both : {A B : Type 0} → A → B → Option (A × B)
both a b = Some (a, b)

some_pair : {A B : Type 0} (a c : A) (b d : B) → both a b ≡ both c d → (a ≡ c) × (b ≡ d)
some_pair {A} {B} a c b d e =
    let first : Option (A × B) → A = λ o. elim o [ Some p ↦ p.0 | None ↦ a ] in
    let second : Option (A × B) → B = λ o. elim o [ Some p ↦ p.1 | None ↦ b ] in
    (ap first e, ap second e)

cut : (test : Bool) (a b : List ℕ) (c d : List ℕ) → cond test None (both a b) ≡ both c d
    → (test ≡ false) × (a ≡ c) × (b ≡ d)
cut true a b c d e = absurd cc
cut false a b c d e = let same = some_pair a c b d e in (refl, same.0, same.1)

cut_number : (test : Bool) (a c : ℕ) (b d : List ℕ) → cond test None (both a b) ≡ both c d
    → (test ≡ false) × (a ≡ c) × (b ≡ d)
cut_number true a c b d e = absurd cc
cut_number false a c b d e = let same = some_pair a c b d e in (refl, same.0, same.1)

-- the front that was read, and what follows it, are the bytes
pub front_read : (n : ℕ) (bytes front rest : List ℕ) → front_at n bytes ≡ Some (front, rest)
    → (bytes ≡ front ++ rest) × (length front ≡ n)
front_read n bytes front rest e =
    let parts = cut (ltb (length bytes) n) (take n bytes) (drop n bytes) front rest e in
    let long = ltb-false (length bytes) n parts.0 in (
      sym (take-append-drop n bytes) ∙ ap (λ xs. xs ++ drop n bytes) parts.1 ∙ ap (λ ys. front ++ ys) parts.2,
      sym (ap length parts.1) ∙ (omega (arith, length-take n bytes, long)),
    )

bytes_of_number : (w : Width) (bytes rest : List ℕ) (n : ℕ) → little_endian_at w bytes ≡ Some (n, rest)
    → (front : List ℕ) × (bytes ≡ front ++ rest) × (length front ≡ byte_len w) × (n ≡ from_le_bytes w front)
bytes_of_number w bytes rest n e =
    let parts = cut_number (ltb (length bytes) (byte_len w)) (from_le_bytes w (take (byte_len w) bytes)) n
    (drop (byte_len w) bytes) rest e in
    let long = ltb-false (length bytes) (byte_len w) parts.0 in (
      take (byte_len w) bytes,
      sym (take-append-drop (byte_len w) bytes) ∙ ap (λ ys. take (byte_len w) bytes ++ ys) parts.2,
      omega (arith, length-take (byte_len w) bytes, long),
      sym parts.1,
    )

-- parts of bytes are bytes
pub front_bytes : (front rest : List ℕ) → IsBytes (front ++ rest) → IsBytes front
front_bytes front rest all i = elim (cases_lt i (length front)) [
  | inl h ↦ subst (λ n. n < 256) (get_or_append_left front rest 0 i h) (all i)
  | inr h ↦ subst (λ n. n < 256) (sym (get_or-eq_default front 0 h)) (omega arith)
]

pub rest_bytes : (front rest : List ℕ) → IsBytes (front ++ rest) → IsBytes rest
rest_bytes front rest all i = subst (λ n. n < 256) (get_or-append-add front rest i 0) (all (length front + i))

-- the number that was read is written as the bytes begin
pub number_read_2 : (bytes rest : List ℕ) (n : ℕ) → IsBytes bytes
    → little_endian_at w16 bytes ≡ Some (n, rest)
    → (bytes ≡ to_le_bytes w16 n ++ rest)
number_read_2 bytes rest n all e =
    let read = bytes_of_number w16 bytes rest n e in
    let front : List ℕ = read.0 in
    let whole : bytes ≡ front ++ rest = read.1 in
    let small : IsBytes front = front_bytes front rest (subst IsBytes whole all) in
    whole ∙ ap (λ xs. xs ++ rest) (sym (le_bytes_2 front n read.2 small read.3))

below_4 : (front : List ℕ) (n : ℕ) → IsBytes front → n ≡ from_le_bytes w32 front → n < 2 ^ 32
below_4 front n small e = omega (arith, e, small 0, small 1, small 2, small 3)

pub number_read_4 : (bytes rest : List ℕ) (n : ℕ) → IsBytes bytes
    → little_endian_at w32 bytes ≡ Some (n, rest)
    → (bytes ≡ to_le_bytes w32 n ++ rest) × (n < 2 ^ 32)
number_read_4 bytes rest n all e =
    let read = bytes_of_number w32 bytes rest n e in
    let front : List ℕ = read.0 in
    let whole : bytes ≡ front ++ rest = read.1 in
    let small : IsBytes front = front_bytes front rest (subst IsBytes whole all) in (
      whole ∙ ap (λ xs. xs ++ rest) (sym
          (le_bytes_4 front n read.2 small read.3)),
      below_4 front n small read.3,
    )
