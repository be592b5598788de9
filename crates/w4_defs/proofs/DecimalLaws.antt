-- Decimal digits and their value: a digit before others, std's laws of numerals, and the text of a number.
use Rattle.std.proofs.Common.{◌≡◌, ℕ, zero, suc, ◌+◌, ◌-◌, ◌*◌, ◌^◌, ◌<◌, ◌≤◌, true, List, ◌∷◌, map, length, get_or, refl, ap, ◌∙◌, arith, add-one}
use Rattle.std.specs.List.{sum, range_with_len}
use Rattle.std.specs.Fmt.{decimal}
use Rattle.std.specs.Str.{all_ascii_digits}
use Rattle.std.proofs.lemmas.Bool.{le-leb}
use Rattle.std.proofs.lemmas.Fmt.{digits_decimal, digits_value-decimal, length-decimal-le, decimal_nonempty}
use Rattle.std.proofs.lemmas.List.Sums.{sum_by-cons}
use Rattle.std.proofs.lemmas.Str.Parse.{IsNumeralModel, numerals_by_weight, tells_all_ascii_digits}
use Rattle.w4_defs.specs.Lines.{decimal_value, number_of, DecimalIsRead}

-- terms counted from 1 are those of the next function counted from 0
terms_shift : (f g : ℕ → ℕ) → ((i : ℕ) → f (i + 1) ≡ g i) → (from n : ℕ)
    → map f (range_with_len (from + 1) n) ≡ map g (range_with_len from n)
terms_shift f g same from zero = refl
terms_shift f g same from (suc n) = λ i. same from i ∷ terms_shift f g same (from + 1) n i

-- what digit I of these adds
abbrev term : List ℕ → ℕ → ℕ
term digits i = (get_or digits i 0 - 48) * 10 ^ (length digits - 1 - i)

term_shift : (d : ℕ) (digits : List ℕ) (i : ℕ) → term (d ∷ digits) (i + 1) ≡ term digits i
term_shift d digits i =
    let fewer : suc (length digits) - 1 - suc i ≡ length digits - 1 - i = omega arith in
    ap (term (d ∷ digits)) (add-one i) ∙ ap (λ e. (get_or digits i 0 - 48) * 10 ^ e) fewer

-- a digit before others
pub value_before : (d : ℕ) (digits : List ℕ)
    → decimal_value (d ∷ digits) ≡ (d - 48) * 10 ^ length digits + decimal_value digits
unfolding decimal_value
value_before d digits =
    let first : suc (length digits) - 1 - 0 ≡ length digits = omega arith in
    sum_by-cons (λ n. n) (term (d ∷ digits) 0) (map (term (d ∷ digits)) (range_with_len 1 (length digits)))
    ∙ (λ i. (d - 48) * 10 ^ first i
    + sum (terms_shift (term (d ∷ digits)) (term digits) (term_shift d digits) 0 (length digits) i))

-- std's laws of numerals, for digits that are told and valued so
pub numerals : IsNumeralModel (λ digits. all_ascii_digits digits ≡ true) decimal_value
unfolding decimal_value
numerals = numerals_by_weight (λ digits. all_ascii_digits digits ≡ true) tells_all_ascii_digits decimal_value
    (record { empty = refl; more = λ c cs _. value_before c cs })

-- the text of a number
pub decimal_is_read : DecimalIsRead
unfolding number_of
decimal_is_read n small =
    let value : decimal_value (decimal n) ≡ n = digits_value-decimal numerals n (omega (arith, small)) in
    let digits : all_ascii_digits (decimal n) ≡ true = digits_decimal numerals n (omega (arith, small)) in
    let some : 0 < length (decimal n) = decimal_nonempty n (omega (arith, small)) in
    let few : length (decimal n) ≤ 10 =
    length-decimal-le 10 n (omega arith) (omega (arith, small)) (omega (arith, small)) in
    rw (
      le-leb 1 (length (decimal n)) (omega (arith, some)),
      le-leb (length (decimal n)) 10 few,
      digits,
      value,
      le-leb n 4294967295 small,
    ) refl
