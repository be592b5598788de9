-- The line of an input, in a recording's text, is read as the order that inserts it.
use Rattle.std.proofs.Common.{◌≡◌, ◌≢◌, ℕ, ℤ, pos, negsuc, neg_ℤ, suc, ◌+◌, ◌<◌, ◌≤◌, Bool, true, false, cond}
use Rattle.std.proofs.Common.{List, [], ◌∷◌, ◌++◌, length, map, Option, Some, None, codes, FitsSigned, refl}
use Rattle.std.proofs.Common.{sym, subst, ap, ◌∙◌, arith, add-one, append_assoc, length-append}
use Rattle.std.specs.Fmt.{decimal}
use Rattle.std.specs.Int.{w16}
use Rattle.std.specs.List.{flat_map, AllByRecursion}
use Rattle.std.specs.Str.Parse.{AllDigits}
use Rattle.std.proofs.lemmas.Bool.{le-leb, ne_eqb}
use Rattle.std.proofs.lemmas.Fmt.{decimal_is_IsNumeral, decimal_nonempty, length-decimal-le}
use Rattle.std.proofs.lemmas.List.{length-map}
use Rattle.std.proofs.lemmas.Str.Parse.{digit_from_value}
use Rattle.w4_defs.specs.declared.console.Input.{Input}
use Rattle.w4_defs.specs.declared.order.Order.TheVariants.{Insert}
use Rattle.w4_defs.specs.FrameTexts.{spaced}
use Rattle.w4_defs.specs.InputsText.{input_words, reset_word_of, spaced_coordinate}
use Rattle.w4_defs.specs.Lines.{at_most, coordinate_of, decimal_byte, is_skipped, number_of, words_of}
use Rattle.w4_defs.specs.Reading.{◌>>=◌, IsBytes}
use Rattle.w4_defs.specs.Recording.{IsInput}
use Rattle.w4_defs.specs.Script.{frame_order, order_of, reset_word, script_rows}
use Rattle.w4_defs.proofs.DecimalLaws.{decimal_is_read}
use Rattle.w4_script.proofs.InputsTextWordLaws.{IsShortWord, IsVisible, all_append, line_visible, spread}
use Rattle.w4_script.proofs.InputsTextWordLaws.{spread_short, words_again}

-- ---- numbers

letters_of_digits : (digits : List ℕ) → AllDigits 10 digits → AllByRecursion (λ b. 32 < b) digits
letters_of_digits [] all = tt
letters_of_digits (c ∷ digits) all =
    (omega (arith, digit_from_value c all.0), letters_of_digits digits all.1)

pub decimal_word : (n : ℕ) → n ≤ 4294967295 → IsShortWord (decimal n)
decimal_word n small = record {
  some = decimal_nonempty n (omega (arith, small));
  short = omega (arith, length-decimal-le 10 n (omega arith) (omega (arith, small)) (omega (arith, small)));
  letters = letters_of_digits (decimal n) (decimal_is_IsNumeral n (omega (arith, small))).0.1;
}

bind_is : {A B : Type 0} (o : Option A) (f : A → Option B) (x : A) (y : B) → o ≡ Some x → f x ≡ Some y
    → (o >>= f) ≡ Some y
bind_is o f x y is next = ap (λ p. p >>= f) is ∙ next

within_limit : (limit n : ℕ) → n ≤ limit → at_most limit n ≡ Some n
within_limit limit n small = ap (λ within. cond within (Some n) None) (le-leb n limit small)

byte_is_read : (n : ℕ) → n < 256 → decimal_byte (decimal n) ≡ Some n
unfolding decimal_byte
byte_is_read n small =
    bind_is (number_of (decimal n)) (at_most 255) n n (decimal_is_read n (omega (arith, small)))
    (within_limit 255 n (omega (arith, small)))

-- a coordinate as a word
coordinate_word : ℤ → List ℕ
coordinate_word (pos n) = decimal n
coordinate_word (negsuc n) = 45 ∷ decimal (n + 1)

coordinate_is_spaced : (z : ℤ) → spaced_coordinate z ≡ 32 ∷ coordinate_word z
unfolding coordinate_word
coordinate_is_spaced (pos n) = refl
coordinate_is_spaced (negsuc n) = refl

coordinate_is_word : (z : ℤ) → FitsSigned w16 z → IsShortWord (coordinate_word z)
unfolding coordinate_word
coordinate_is_word (pos n) fits = decimal_word n (omega (arith, fits))
coordinate_is_word (negsuc n) fits =
    let m = n + 1 in
    let short : length (decimal m) ≤ 10 =
    length-decimal-le 10 m (omega arith) (omega (arith, fits)) (omega (arith, fits)) in
    record {
      some = omega arith;
      short = omega (arith, short);
      letters = (omega arith, (decimal_word m (omega (arith, fits))).letters);
    }

-- digits, which don't begin with a sign
digits_read : (digits : List ℕ) (n : ℕ) → AllByRecursion (λ b. b ≢ 45) digits → 0 < length digits
    → number_of digits ≡ Some n → n ≤ 32767 → coordinate_of digits ≡ Some (pos n)
unfolding coordinate_of
digits_read [] n no_sign some read small = absurd (omega (arith, some))
digits_read (c ∷ digits) n no_sign some read small =
    let value = number_of (c ∷ digits) >>= at_most 32767 >>= λ n. Some (pos n) in
    ap (λ sign. cond sign (number_of digits >>= at_most 32768 >>= λ n. Some (neg_ℤ (pos n))) value)
    (ne_eqb c 45 no_sign.0)
    ∙ ap (λ o. o >>= at_most 32767 >>= λ n. Some (pos n)) read
    ∙ ap (λ o. o >>= λ n. Some (pos n)) (within_limit 32767 n small)

no_signs : (digits : List ℕ) → AllDigits 10 digits → AllByRecursion (λ b. b ≢ 45) digits
no_signs [] all = tt
no_signs (c ∷ digits) all =
    (λ same. omega (arith, same, digit_from_value c all.0), no_signs digits all.1)

coordinate_is_read : (z : ℤ) → FitsSigned w16 z → coordinate_of (coordinate_word z) ≡ Some z
unfolding coordinate_of coordinate_word
coordinate_is_read (pos n) fits =
    digits_read (decimal n) n (no_signs (decimal n) (decimal_is_IsNumeral n (omega (arith, fits))).0.1)
    (decimal_nonempty n (omega (arith, fits))) (decimal_is_read n (omega (arith, fits))) (omega (arith, fits))
coordinate_is_read (negsuc n) fits =
    ap (λ o. o >>= at_most 32768 >>= λ n. Some (neg_ℤ (pos n)))
    (decimal_is_read (n + 1) (omega (arith, fits)))
    ∙ ap (λ o. o >>= λ n. Some (neg_ℤ (pos n))) (within_limit 32768 (n + 1) (omega (arith, fits)))
    ∙ ap (λ m. Some (neg_ℤ (pos m))) (add-one n)

-- ---- the words of an input

reset_words : Bool → List (List ℕ)
reset_words true = codes "reset" ∷ []
reset_words false = []

reset_is_read : (reset : Bool) → reset_word (reset_words reset) ≡ Some reset
unfolding reset_words
reset_is_read true = refl
reset_is_read false = refl

reset_is_spread : (reset : Bool) → reset_word_of reset ≡ spread (reset_words reset)
unfolding reset_words
reset_is_spread true = refl
reset_is_spread false = refl

reset_are_words : (reset : Bool) → AllByRecursion IsShortWord (reset_words reset)
unfolding reset_words
reset_are_words true = (
  record {
    some = omega arith;
    short = omega arith;
    letters = (omega arith, (omega arith, (omega arith, (omega arith, (omega arith, tt)))));
  },
  tt,
)
reset_are_words false = tt

few_reset_words : (reset : Bool) → length (reset_words reset) ≤ 1
unfolding reset_words
few_reset_words true = omega arith
few_reset_words false = omega arith

-- its number, pads, mouse and buttons, and the word of a reset
field_words : ℕ → Input → List (List ℕ)
field_words k input = decimal k ∷ (map decimal input.pads ++ coordinate_word input.mouse_x
    ∷ coordinate_word input.mouse_y ∷ decimal input.buttons ∷ reset_words input.reset)

pads_are_spread : (pads tail : List ℕ) (words : List (List ℕ)) → tail ≡ spread words
    → flat_map spaced pads ++ tail ≡ spread (map decimal pads ++ words)
pads_are_spread [] tail words e = e
pads_are_spread (pad ∷ pads) tail words e =
    ap (λ text. 32 ∷ text) (append_assoc (decimal pad) (flat_map spaced pads) tail
    ∙ ap (λ text. decimal pad ++ text) (pads_are_spread pads tail words e))

regrouped : (a b c d e f : List ℕ) → a ++ b ++ c ++ d ++ e ++ f ≡ a ++ (b ++ (c ++ (d ++ (e ++ f))))
regrouped a b c d e f = simp append_assoc refl

fields_are_spread : (k : ℕ) (input : Input) → input_words k input ≡ spread (field_words k input)
unfolding field_words
fields_are_spread k input =
    let x = coordinate_word input.mouse_x in
    let y = coordinate_word input.mouse_y in
    let buttons = decimal input.buttons in
    let last = reset_words input.reset in
    let reset : spaced input.buttons ++ reset_word_of input.reset ≡ spread (buttons ∷ last) =
    ap (λ text. 32 ∷ (buttons ++ text)) (reset_is_spread input.reset) in
    let down : spaced_coordinate input.mouse_y ++ (spaced input.buttons ++ reset_word_of input.reset)
    ≡ spread (y ∷ buttons ∷ last) = (λ i. coordinate_is_spaced input.mouse_y i ++ reset i) in
    let mouse : spaced_coordinate input.mouse_x ++ (spaced_coordinate input.mouse_y
    ++ (spaced input.buttons ++ reset_word_of input.reset)) ≡ spread (x ∷ y ∷ buttons ∷ last) =
    (λ i. coordinate_is_spaced input.mouse_x i ++ down i) in
    regrouped (spaced k) (flat_map spaced input.pads) (spaced_coordinate input.mouse_x)
    (spaced_coordinate input.mouse_y) (spaced input.buttons) (reset_word_of input.reset)
    ∙ ap (λ text. 32 ∷ (decimal k ++ text))
    (pads_are_spread input.pads _ (x ∷ y ∷ buttons ∷ last) mouse)

pads_are_words : (pads : List ℕ) → IsBytes pads → AllByRecursion IsShortWord (map decimal pads)
pads_are_words [] bytes = tt
pads_are_words (pad ∷ pads) bytes =
    (decimal_word pad (omega (arith, bytes 0)), pads_are_words pads (λ i. bytes (suc i)))

module _ (k : ℕ) (input : Input) (few : k ≤ 4294967295) (is : IsInput input) where
  fields_are_words : AllByRecursion IsShortWord (field_words k input)
  unfolding field_words
  fields_are_words = (
    decimal_word k few,
    all_append IsShortWord (map decimal input.pads) _
        (pads_are_words input.pads is.pads) (
          coordinate_is_word input.mouse_x is.mouse_x,
          (
            coordinate_is_word input.mouse_y is.mouse_y,
            (decimal_word input.buttons (omega (arith, is.buttons)), reset_are_words input.reset),
          ),
        ),
  )

fields_read : (k buttons : ℕ) (pads : List ℕ) (x y : ℤ) (reset : Bool) → k ≤ 4294967295
    → length pads ≡ 4 → IsBytes pads → FitsSigned w16 x → FitsSigned w16 y → buttons < 256 →
    let input : Input =
    record { pads = pads; mouse_x = x; mouse_y = y; buttons = buttons; reset = reset } in
    frame_order Insert (field_words k input) ≡ Some (Insert k input)
unfolding field_words
fields_read k buttons [] x y reset few four bytes across down pressed = absurd cc
fields_read k buttons (a ∷ []) x y reset few four bytes across down pressed = absurd cc
fields_read k buttons (a ∷ b ∷ []) x y reset few four bytes across down pressed = absurd cc
fields_read k buttons (a ∷ b ∷ c ∷ []) x y reset few four bytes across down pressed = absurd cc
fields_read k buttons (a ∷ b ∷ c ∷ d ∷ []) x y reset few four bytes across down pressed =
    rw (
      decimal_is_read k few,
      byte_is_read a (bytes 0),
      byte_is_read b (bytes 1),
      byte_is_read c (bytes 2),
      byte_is_read d (bytes 3),
      coordinate_is_read x across,
      coordinate_is_read y down,
      byte_is_read buttons pressed,
      reset_is_read reset,
    ) refl
fields_read k buttons (a ∷ b ∷ c ∷ d ∷ e ∷ pads) x y reset few four bytes across down pressed =
    absurd (omega (arith, four))

-- ---- the line of an input

unfoldable pub insert_line : ℕ → Input → List ℕ
insert_line k input = codes "insert" ++ input_words k input

insert_is_word : IsShortWord (codes "insert")
insert_is_word = record {
  some = omega arith;
  short = omega arith;
  letters = (omega arith, (omega arith, (omega arith, (omega arith, (omega arith, (omega arith, tt))))));
}

module _ (k : ℕ) (input : Input) (few : k ≤ 4294967295) (is : IsInput input) where
  line_is_spread : insert_line k input ≡ codes "insert" ++ spread (field_words k input)
  unfolding insert_line
  line_is_spread = ap (λ text. codes "insert" ++ text) (fields_are_spread k input)

  pub insert_is_visible : IsVisible (insert_line k input)
  insert_is_visible =
      subst IsVisible (sym line_is_spread)
      (line_visible (codes "insert") (field_words k input) insert_is_word (fields_are_words k input few is))

  insert_words : words_of (insert_line k input) ≡ codes "insert" ∷ field_words k input
  insert_words =
      ap words_of line_is_spread
      ∙ words_again (codes "insert") (field_words k input) insert_is_word (fields_are_words k input few is)

  pub insert_is_not_skipped : is_skipped (words_of (insert_line k input)) ≡ false
  insert_is_not_skipped = ap is_skipped insert_words

  pub insert_is_read : order_of (words_of (insert_line k input)) ≡ Some (Insert k input)
  unfolding script_rows
  insert_is_read =
      ap order_of insert_words
      ∙ fields_read k input.buttons input.pads input.mouse_x input.mouse_y input.reset few is.four_pads
      is.pads is.mouse_x is.mouse_y is.buttons

field_count : (k : ℕ) (input : Input) → length input.pads ≡ 4 → length (field_words k input) ≤ 9
unfolding field_words
field_count k input four =
    let rest = coordinate_word input.mouse_x ∷ coordinate_word input.mouse_y ∷ decimal input.buttons
    ∷ reset_words input.reset in
    omega (
      arith,
      four,
      few_reset_words input.reset,
      length-map input.pads decimal,
      length-append (map decimal input.pads) rest,
    )

pub insert_is_short : (k : ℕ) (input : Input) → k ≤ 4294967295 → IsInput input
    → length (insert_line k input) ≤ 1024
insert_is_short k input few is =
    let words = field_words k input in
    omega (
      arith,
      ap (λ (line : List ℕ). length line) (line_is_spread k input few is),
      length-append (codes "insert") (spread words),
      spread_short words (fields_are_words k input few is),
      field_count k input is.four_pads,
    )
