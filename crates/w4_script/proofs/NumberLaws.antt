-- Digits that are read one after another.
use Rattle.std.proofs.Common.{◌≡◌, ℕ, zero, suc, ◌+◌, ◌-◌, ◌*◌, ◌^◌, ◌<◌, ◌≤◌, Bool, true, false, cond, ◌&&◌}
use Rattle.std.proofs.Common.{List, [], ◌∷◌, ◌++◌, take, Some, None, refl, sym, ap, ◌∙◌, length, get_or}
use Rattle.std.proofs.Common.{arith}
use Rattle.std.specs.Char.{is_ascii_digit}
use Rattle.std.specs.Str.{all_ascii_digits}
use Rattle.std.proofs.Math.Nat.{pow-suc}
use Rattle.std.proofs.lemmas.Bool.{lt-leb, le-leb}
use Rattle.std.proofs.lemmas.List.{length-append, take_all, take_more}
use Rattle.std.proofs.lemmas.Str.Parse.{digits_value-take-le}
use Rattle.w4_defs.specs.Lines.{at_most, decimal_value}
use Rattle.w4_defs.proofs.DecimalLaws.{numerals, value_before}
use Rattle.w4_script.specs.Number.{digit_value}

-- ---- a digit after others

pub no_digits : decimal_value [] ≡ 0
unfolding decimal_value
no_digits = refl

regrouped : (a p v e : ℕ) → a * (p * 10) + (10 * v + e) ≡ 10 * (a * p + v) + e
regrouped a p v e = grind arith

value_after : (digits : List ℕ) (d : ℕ)
    → decimal_value (digits ++ d ∷ []) ≡ 10 * decimal_value digits + (d - 48)
value_after [] d = omega (arith, value_before d [], no_digits)
value_after (x ∷ digits) d =
    let long : length (digits ++ d ∷ []) ≡ suc (length digits) = omega
    (arith, length-append digits (d ∷ [])) in
    let power : 10 ^ length (digits ++ d ∷ []) ≡ 10 ^ length digits * 10 =
    ap (λ n. 10 ^ n) long ∙ pow-suc 10 (length digits) in
    value_before x (digits ++ d ∷ [])
    ∙ (λ i. (x - 48) * power i + value_after digits d i)
    ∙ regrouped (x - 48) (10 ^ length digits) (decimal_value digits) (d - 48)
    ∙ ap (λ n. 10 * n + (d - 48)) (sym (value_before x digits))

and_more : (a b c : Bool) → (a && b) ≡ true → (b ≡ true → c ≡ true) → (a && c) ≡ true
and_more true b c both more = more both
and_more false b c both more = both

all_after : (digits : List ℕ) (d : ℕ) → all_ascii_digits digits ≡ true → is_ascii_digit d ≡ true
    → all_ascii_digits (digits ++ d ∷ []) ≡ true
all_after [] d all digit = ap (λ t. t && true) digit
all_after (x ∷ digits) d all digit = and_more (is_ascii_digit x) (all_ascii_digits digits)
    (all_ascii_digits (digits ++ d ∷ [])) all (λ rest. all_after digits d rest digit)

-- one more digit of these is read
pub one_more : (n i : ℕ) (digits : List ℕ) → i < length digits → is_ascii_digit (get_or digits i 0) ≡ true
    → all_ascii_digits (take i digits) ≡ true → decimal_value (take i digits) ≡ n
    → (all_ascii_digits (take (i + 1) digits) ≡ true)
    × (decimal_value (take (i + 1) digits) ≡ 10 * n + (get_or digits i 0 - 48))
one_more n i digits within digit all so_far =
    let more = take_more digits i 0 within in (
      ap all_ascii_digits more ∙ all_after (take i digits) (get_or digits i 0) all digit,
      ap decimal_value more ∙ value_after (take i digits) (get_or digits i 0)
          ∙ ap (λ v. 10 * v + (get_or digits i 0 - 48)) so_far,
    )

-- ---- what the digits are worth

and_false : (a : Bool) → (a && false) ≡ false
and_false true = refl
and_false false = refl

not_all : (digits : List ℕ) (i : ℕ) → i < length digits → is_ascii_digit (get_or digits i 0) ≡ false
    → all_ascii_digits digits ≡ false
not_all [] i within other = absurd (omega (arith, within))
not_all (x ∷ digits) zero within other = ap (λ t. t && all_ascii_digits digits) other
not_all (x ∷ digits) (suc i) within other =
    ap (λ t. is_ascii_digit x && t) (not_all digits i (omega (arith, within)) other)
    ∙ and_false (is_ascii_digit x)

-- a byte that is no digit
pub no_digit : (digits : List ℕ) (i : ℕ) → i < length digits → is_ascii_digit (get_or digits i 0) ≡ false
    → digit_value digits ≡ None
no_digit digits i within other =
    ap (λ t. cond t (at_most 4294967295 (decimal_value digits)) None) (not_all digits i within other)

-- the first digits are worth no more than all of them
past_when : (b : Bool) (i : ℕ) (digits : List ℕ) → all_ascii_digits digits ≡ b
    → all_ascii_digits (take i digits) ≡ true → 4294967295 < decimal_value (take i digits)
    → cond b (at_most 4294967295 (decimal_value digits)) None ≡ None
past_when true i digits all first large =
    let whole = numerals.same digits (numerals.to digits all) in
    let part = numerals.same (take i digits) (numerals.to (take i digits) first) in
    let le = digits_value-take-le 10 digits i (omega arith) in
    ap (λ t. cond t (Some (decimal_value digits)) None)
    (lt-leb (decimal_value digits) 4294967295 (omega (arith, large, whole, part, le)))
past_when false i digits all first large = refl

-- a value that one more digit takes past the limit
pub past_limit : (n i : ℕ) (digits : List ℕ) → i < length digits → is_ascii_digit (get_or digits i 0) ≡ true
    → all_ascii_digits (take i digits) ≡ true → decimal_value (take i digits) ≡ n
    → 4294967295 < 10 * n + (get_or digits i 0 - 48) → digit_value digits ≡ None
past_limit n i digits within digit all so_far large =
    let next = one_more n i digits within digit all so_far in
    past_when (all_ascii_digits digits) (i + 1) digits refl next.0 (omega (arith, large, next.1))

pub all_read : (n i : ℕ) (digits : List ℕ) → length digits ≤ i → n ≤ 4294967295
    → all_ascii_digits (take i digits) ≡ true → decimal_value (take i digits) ≡ n
    → digit_value digits ≡ Some n
all_read n i digits end low first so_far =
    let same : take i digits ≡ digits = take_all i digits end in
    let all : all_ascii_digits digits ≡ true = ap all_ascii_digits (sym same) ∙ first in
    let value : decimal_value digits ≡ n = ap decimal_value (sym same) ∙ so_far in
    rw (all, value, le-leb n 4294967295 low) refl
