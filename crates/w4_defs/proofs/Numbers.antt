-- A number that is put into bytes changes just those bytes, and is found there again.
use Rattle.std.proofs.Common.{◌≡◌, ◌≢◌, ℕ, zero, suc, ◌+◌, ◌*◌, ◌/◌, ◌%◌, ◌^◌, ◌<◌, ◌≤◌, ◌⊎◌, inl, slice_set, slice_index, refl, ap, ◌∙◌, arith, length-set}
use Rattle.std.proofs.lemmas.List.{get_or-set_same, get_or-set_other}
use Rattle.std.proofs.Math.Arith.{mod-mul}
use Rattle.std.proofs.Math.Nat.{pow-suc}
use Rattle.w4_defs.specs.Bytes.{number_at, put_number, PutKeepsLength, PutKeepsOthers, PutIsFound}

pub length-put_number : PutKeepsLength
length-put_number bytes at zero number = refl
length-put_number bytes at (suc count) number =
    length-put_number (slice_set bytes at (number % 256)) (at + 1) count (number / 256)
    ∙ length-set bytes at (number % 256)

pub get_or-put_number : PutKeepsOthers
get_or-put_number bytes at zero number i h = refl
get_or-put_number bytes at (suc count) number i h =
    get_or-put_number (slice_set bytes at (number % 256)) (at + 1) count (number / 256) i (inside h)
    ∙ get_or-set_other bytes at i (number % 256) 0 (other h)
  where
    inside : (i < at) ⊎ (at + suc count ≤ i) → (i < at + 1) ⊎ (at + 1 + count ≤ i)
    inside h = grind arith

    other : (i < at) ⊎ (at + suc count ≤ i) → i ≢ at
    other h = grind arith

byte_powers : (k : ℕ) → 0 < 256 ^ k
byte_powers zero = omega arith
byte_powers (suc k) = omega (arith, byte_powers k, pow-suc 256 k)

pub number_at-put_number : PutIsFound
number_at-put_number bytes at zero number h = omega arith
number_at-put_number bytes at (suc count) number h =
    let first : slice_index (put_number bytes at (suc count) number) at ≡ number % 256 =
    get_or-put_number (slice_set bytes at (number % 256)) (at + 1) count (number / 256) at (inl (omega arith))
    ∙ get_or-set_same bytes at (number % 256) 0 (omega arith) in
    let rest : number_at (put_number bytes at (suc count) number) (at + 1) count ≡ number / 256 % 256 ^
    count =
    number_at-put_number (slice_set bytes at (number % 256)) (at + 1) count (number / 256)
    (omega (arith, length-set bytes at (number % 256))) in
    let digits : number % (256 ^ count * 256) ≡ (number / 256 % 256 ^ count) * 256 + number % 256 =
    mod-mul number {m = 256 ^ count} {c = 256} (byte_powers count) (omega arith) in
    omega (arith, first, rest, digits, ap (λ m. number % m) (pow-suc 256 count))
