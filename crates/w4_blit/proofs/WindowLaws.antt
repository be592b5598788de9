-- Sixteen digits from the bytes that have them, and the pixels that the cells of a row read.
use Rattle.std.proofs.Common.{◌≡◌, ℕ, zero, suc, ◌+◌, ◌-◌, ◌*◌, ◌/◌, ◌%◌, ◌^◌, ◌<◌, ◌≤◌, Bool, true, false}
use Rattle.std.proofs.Common.{◌&&◌, ◌||◌, List, [], ◌∷◌, get_or, Option, max, min, refl, sym, ◌∙◌, ap, inl}
use Rattle.std.proofs.Common.{inr, arith}
use Rattle.std.specs.Prelude.{ℤ, pos, negsuc, ◌-ℤ◌, ◌≤ℤ◌, if◌then◌else◌}
use Rattle.std.specs.Option.{option_or}
use Rattle.std.proofs.lemmas.Bool.{cases_lt}
use Rattle.std.proofs.lemmas.Bool.Decides.{nat_tests}
use Rattle.std.proofs.lemmas.Int.{ints}
use Rattle.std.proofs.lemmas.List.{get_or_past}
use Rattle.std.proofs.lemmas.Nat.{field_of}
use Rattle.w4_defs.specs.declared.sprite.Sprite.{Sprite}
use Rattle.w4_defs.specs.Blit.{has_flag, source_value}
use Rattle.w4_defs.specs.Colours.{palette_index}
use Rattle.w4_defs.specs.Framebuffer.{Painter}
use Rattle.w4_defs.specs.Shapes.{natural, only_if}
use Rattle.w4_defs.proofs.PaintLaws.{below_four}
use Rattle.w4_pixels.specs.Clipping.{clipped}
use Rattle.w4_blit.specs.Inks.{ink_of}
use Rattle.w4_blit.specs.Strips.{strip_index}
use Rattle.w4_blit.specs.Walks.{walked}
use Rattle.w4_blit.specs.declared.inks.Inks.{Inks}
use Rattle.w4_blit.specs.declared.walks.Walk.{Walk}
use Rattle.w4_blit.proofs.StripLaws.{below_eight, fours, mod_four, or_none, right_digit, zero_digit}

-- ---- digits of several bytes

-- one more byte in front
four_more : (b rest : ℕ) (bs : List ℕ) → b < 256
    → ((t : ℕ) → rest / 4 ^ t % 4 ≡ get_or bs (t / 4) 0 / 4 ^ (t % 4) % 4)
    → (t : ℕ) → (b + 256 * rest) / 4 ^ t % 4 ≡ get_or (b ∷ bs) (t / 4) 0 / 4 ^ (t % 4) % 4
four_more b rest bs hb each t = elim (cases_lt t 4) [
  | inl low ↦ (
      let P : ℕ → Type 0 = λ t. (b + 256 * rest) / 4 ^ t % 4 ≡ b / 4 ^ t % 4 in
      let byte : t / 4 ≡ 0 = omega arith in
      let digit : t % 4 ≡ t = omega arith in
      below_four P (omega arith) (omega arith) (omega arith) (omega arith) t low
      ∙ sym (ap (λ (i : ℕ). get_or (b ∷ bs) i 0 / 4 ^ (t % 4) % 4) byte ∙ ap (λ (m : ℕ). b / 4 ^ m % 4)
      digit))
  | inr high ↦ (
      let j = t - 4 in
      let same : 4 + j ≡ t = omega arith in
      let whole : (b + 256 * rest) / 256 ≡ rest = omega arith in
      let byte : t / 4 ≡ suc (j / 4) = omega arith in
      let digit : t % 4 ≡ j % 4 = omega arith in
      ap (λ (i : ℕ). (b + 256 * rest) / 4 ^ i % 4) (sym same) ∙ sym (right_digit (b + 256 * rest) 4 j)
      ∙ ap (λ (n : ℕ). n / 4 ^ j % 4) whole ∙ each j
      ∙ sym (ap (λ (i : ℕ). get_or (b ∷ bs) i 0 / 4 ^ (t % 4) % 4) byte
      ∙ ap (λ (m : ℕ). get_or bs (j / 4) 0 / 4 ^ m % 4) digit))
]

four_none : (t : ℕ) → 0 / 4 ^ t % 4 ≡ get_or [] (t / 4) 0 / 4 ^ (t % 4) % 4
four_none t =
    let empty : List ℕ = [] in
    zero_digit t
    ∙ sym (ap (λ (n : ℕ). n / 4 ^ (t % 4) % 4) (get_or_past empty (t / 4) 0 (omega arith)) ∙ zero_digit (t %
    4))

one_byte : (e : ℕ) → e < 256 → (t : ℕ) → e / 4 ^ t % 4 ≡ get_or (e ∷ []) (t / 4) 0 / 4 ^ (t % 4) % 4
one_byte e he t =
    let flat : e ≡ e + 256 * 0 = omega arith in
    ap (λ (n : ℕ). n / 4 ^ t % 4) flat ∙ four_more e 0 [] he four_none t

pub four_bytes : (b c d e : ℕ) → b < 256 → c < 256 → d < 256 → e < 256 → (t : ℕ)
    → (b + 256 * (c + 256 * (d + 256 * e))) / 4 ^ t % 4
    ≡ get_or (b ∷ c ∷ d ∷ e ∷ []) (t / 4) 0 / 4 ^ (t % 4) % 4
four_bytes b c d e hb hc hd he =
    four_more b (c + 256 * (d + 256 * e)) (c ∷ d ∷ e ∷ []) hb
    (four_more c (d + 256 * e) (d ∷ e ∷ []) hc (four_more d e (e ∷ []) hd (one_byte e he)))

pub five_bytes : (a b c d e : ℕ) → a < 256 → b < 256 → c < 256 → d < 256 → e < 256 → (t : ℕ)
    → (a + 256 * (b + 256 * (c + 256 * (d + 256 * e)))) / 4 ^ t % 4
    ≡ get_or (a ∷ b ∷ c ∷ d ∷ e ∷ []) (t / 4) 0 / 4 ^ (t % 4) % 4
five_bytes a b c d e ha hb hc hd he =
    four_more a (b + 256 * (c + 256 * (d + 256 * e))) (b ∷ c ∷ d ∷ e ∷ []) ha (four_bytes b c d e hb hc hd he)

-- the same of words of eight digits
eight_more : (b rest : ℕ) (bs : List ℕ) → b < 65536
    → ((t : ℕ) → rest / 4 ^ t % 4 ≡ get_or bs (t / 8) 0 / 4 ^ (t % 8) % 4)
    → (t : ℕ) → (b + 65536 * rest) / 4 ^ t % 4 ≡ get_or (b ∷ bs) (t / 8) 0 / 4 ^ (t % 8) % 4
eight_more b rest bs hb each t = elim (cases_lt t 8) [
  | inl low ↦ (
      let P : ℕ → Type 0 = λ t. (b + 65536 * rest) / 4 ^ t % 4 ≡ b / 4 ^ t % 4 in
      let byte : t / 8 ≡ 0 = omega arith in
      let digit : t % 8 ≡ t = omega arith in
      below_eight P (omega arith) (omega arith) (omega arith) (omega arith) (omega arith) (omega arith)
      (omega arith) (omega arith) t low
      ∙ sym (ap (λ (i : ℕ). get_or (b ∷ bs) i 0 / 4 ^ (t % 8) % 4) byte ∙ ap (λ (m : ℕ). b / 4 ^ m % 4)
      digit))
  | inr high ↦ (
      let j = t - 8 in
      let same : 8 + j ≡ t = omega arith in
      let whole : (b + 65536 * rest) / 65536 ≡ rest = omega arith in
      let byte : t / 8 ≡ suc (j / 8) = omega arith in
      let digit : t % 8 ≡ j % 8 = omega arith in
      ap (λ (i : ℕ). (b + 65536 * rest) / 4 ^ i % 4) (sym same) ∙ sym (right_digit (b + 65536 * rest) 8 j)
      ∙ ap (λ (n : ℕ). n / 4 ^ j % 4) whole ∙ each j
      ∙ sym (ap (λ (i : ℕ). get_or (b ∷ bs) i 0 / 4 ^ (t % 8) % 4) byte
      ∙ ap (λ (m : ℕ). get_or bs (j / 8) 0 / 4 ^ m % 4) digit))
]

eight_none : (t : ℕ) → 0 / 4 ^ t % 4 ≡ get_or [] (t / 8) 0 / 4 ^ (t % 8) % 4
eight_none t =
    let empty : List ℕ = [] in
    zero_digit t
    ∙ sym (ap (λ (n : ℕ). n / 4 ^ (t % 8) % 4) (get_or_past empty (t / 8) 0 (omega arith)) ∙ zero_digit (t %
    8))

one_word : (e : ℕ) → e < 65536 → (t : ℕ) → e / 4 ^ t % 4 ≡ get_or (e ∷ []) (t / 8) 0 / 4 ^ (t % 8) % 4
one_word e he t =
    let flat : e ≡ e + 65536 * 0 = omega arith in
    ap (λ (n : ℕ). n / 4 ^ t % 4) flat ∙ eight_more e 0 [] he eight_none t

pub three_words : (a b c : ℕ) → a < 65536 → b < 65536 → c < 65536 → (t : ℕ)
    → (a + 65536 * (b + 65536 * c)) / 4 ^ t % 4 ≡ get_or (a ∷ b ∷ c ∷ []) (t / 8) 0 / 4 ^ (t % 8) % 4
three_words a b c ha hb hc =
    eight_more a (b + 65536 * c) (b ∷ c ∷ []) ha (eight_more b c (c ∷ []) hb (one_word c hc))

pub low_word : (n k : ℕ) → k < 16 → n % 4294967296 / 4 ^ k % 4 ≡ n / 4 ^ k % 4
low_word n k hk =
    let i = 30 - 2 * k in
    let whole : (i + 2) + 2 * k ≡ 32 = omega arith in
    ap (λ (p : ℕ). n % 4294967296 / p % 4) (fours k)
    ∙ ap (λ (j : ℕ). n % 2 ^ j / 2 ^ (2 * k) % 4) (sym whole)
    ∙ ap (λ (m : ℕ). m % 4) (field_of n (i + 2) (2 * k)) ∙ mod_four (n / 2 ^ (2 * k)) i
    ∙ ap (λ (p : ℕ). n / p % 4) (sym (fours k))

-- ---- the values of pixels

below_five : (P : ℕ → Type 0) → P 0 → P 1 → P 2 → P 3 → P 4 → (k : ℕ) → k < 5 → P k
below_five P a b c d e k below = elim (cases_lt k 4) [
  | inl low ↦ below_four P a b c d k low
  | inr high ↦ (let same : 4 ≡ k = omega arith in rw (sym same) e)
]

below_three : (P : ℕ → Type 0) → P 0 → P 1 → P 2 → (k : ℕ) → k < 3 → P k
below_three P a b c zero below = a
below_three P a b c (suc zero) below = b
below_three P a b c (suc (suc zero)) below = c
below_three P a b c (suc (suc (suc k))) below = absurd (omega arith)

-- eight pixels of one bit a byte
pub of_words : (page : List ℕ) (ptr pixel at k l0 l1 l2 : ℕ) → at ≡ ptr + pixel / 8 → k < 16
    → ((m : ℕ) → m < 8 → l0 / 4 ^ m % 4 ≡ 3 * (get_or page at 0 / 2 ^ (7 - m) % 2))
    → ((m : ℕ) → m < 8 → l1 / 4 ^ m % 4 ≡ 3 * (get_or page (at + 1) 0 / 2 ^ (7 - m) % 2))
    → ((m : ℕ) → m < 8 → l2 / 4 ^ m % 4 ≡ 3 * (get_or page (at + 2) 0 / 2 ^ (7 - m) % 2))
    → get_or (l0 ∷ l1 ∷ l2 ∷ []) ((pixel % 8 + k) / 8) 0 / 4 ^ ((pixel % 8 + k) % 8) % 4
    ≡ 3 * (get_or page (ptr + (pixel + k) / 8) 0 / 2 ^ (7 - (pixel + k) % 8) % 2)
of_words page ptr pixel at k l0 l1 l2 e hk h0 h1 h2 =
    let j = (pixel % 8 + k) / 8 in
    let m = (pixel % 8 + k) % 8 in
    let hm : m < 8 = omega arith in
    let hj : j < 3 = omega arith in
    let same : m ≡ (pixel + k) % 8 = omega arith in
    let byte : at + j ≡ ptr + (pixel + k) / 8 = omega arith in
    let start : at ≡ at + 0 = omega arith in
    let Q : ℕ → Type 0 = λ i. get_or (l0 ∷ l1 ∷ l2 ∷ []) i 0 / 4 ^ m % 4
    ≡ 3 * (get_or page (at + i) 0 / 2 ^ (7 - m) % 2) in
    below_three Q (h0 m hm ∙ ap (λ (i : ℕ). 3 * (get_or page i 0 / 2 ^ (7 - m) % 2)) start) (h1 m hm) (h2 m
    hm)
    j hj
    ∙ ap (λ (i : ℕ). 3 * (get_or page i 0 / 2 ^ (7 - m) % 2)) byte
    ∙ ap (λ (d : ℕ). 3 * (get_or page (ptr + (pixel + k) / 8) 0 / 2 ^ (7 - d) % 2)) same

pub low_of_one : (n : ℕ) → 3 * (n % 2) ≡ 3 * (n % 2 % 2)
low_of_one n = omega arith

pub high_of_one : (n k : ℕ) → 0 / 4 ^ k % 4 ≡ 3 * (n % 2 / 2)
high_of_one n k = let none : 0 ≡ 3 * (n % 2 / 2) = omega arith in zero_digit k ∙ none

-- ---- the cells

pub natural_at : (z : ℤ) → pos 0 ≤ℤ z → pos (natural z) ≡ z
natural_at (pos n) h = refl
natural_at (negsuc n) h = absurd (omega (arith, ints))

pub natural_more : (x : ℤ) (u k : ℕ) → x ≤ℤ pos u
    → natural (pos (u + k) -ℤ x) ≡ natural (pos u -ℤ x) + k
natural_more x u k h =
    let far : pos (natural (pos (u + k) -ℤ x)) ≡ pos (u + k) -ℤ x =
    natural_at (pos (u + k) -ℤ x) (omega (arith, ints)) in
    let near : pos (natural (pos u -ℤ x)) ≡ pos u -ℤ x =
    natural_at (pos u -ℤ x) (omega (arith, ints)) in
    omega (arith, ints)

-- how many cells a row's part has from its first on
pub cells_left : (x : ℤ) (left right n count : ℕ) → left < right → x ≤ℤ pos left → (pos right -ℤ x) ≤ℤ pos
    count
    → n ≡ natural (pos left -ℤ x) → n + (right - left) ≤ count
cells_left x left right n count some from to e =
    let near : pos (natural (pos left -ℤ x)) ≡ pos left -ℤ x =
    natural_at (pos left -ℤ x) (omega (arith, ints)) in
    omega (arith, ints)

pub forward_walk : (walk : Walk) (n : ℕ) → walk.pace ≡ 1 → walk.backward ≡ false
    → walked walk n ≡ walk.start + n
forward_walk walk n pace forward = rw (pace, forward) (omega arith)

pub backward_walk : (walk : Walk) (n : ℕ) → walk.pace ≡ 1 → walk.backward ≡ true
    → walked walk n ≡ walk.start + (walk.count - 1 - n)
backward_walk walk n pace backward = rw (pace, backward) (omega arith)

either_small : (test : Bool) (n m : ℕ) → n < 4 → m < 4 → (if test then n else m) < 4
either_small true n m hn hm = hn
either_small false n m hn hm = hm

pub small_value : (page : List ℕ) (sprite : Sprite) (q : ℕ) → source_value page sprite q < 4
small_value page sprite q = either_small (has_flag sprite 1) _ _ (omega arith) (omega arith)

few_either : (test : Bool) (n m : ℕ) → n < 4 → m < 2 → (if test then n else m) < (if test then 4 else 2)
few_either true n m hn hm = hn
few_either false n m hn hm = hm

pub few_values : (page : List ℕ) (sprite : Sprite) (q : ℕ)
    → source_value page sprite q < (if has_flag sprite 1 then 4 else 2)
few_values page sprite q = few_either (has_flag sprite 1) _ _ (omega arith) (omega arith)

pub ink_index : (inks : Inks) (k value : ℕ) → k < 16 → value < 4
    → strip_index (ink_of inks value) k ≡ palette_index inks.colors (value + 1)
ink_index inks k value hk hv =
    let P : ℕ → Type 0 = λ value. strip_index (ink_of inks value) k ≡ palette_index inks.colors (value + 1) in
    below_four P (inks.first_plain k hk) (inks.second_plain k hk) (inks.third_plain k hk)
    (inks.fourth_plain k hk) value hv

-- ---- one more strip of a row

joined : (first second both : Bool) (o : Option ℕ) → (first && second) ≡ false
    → both ≡ (first || second)
    → option_or (only_if first o) (only_if second o) ≡ only_if both o
joined true true both o h e = absurd (cc)
joined true false both o h e = or_none o ∙ ap (λ t. only_if t o) (sym e)
joined false second both o h e = ap (λ t. only_if t o) (sym e)

pub strips_more : (f : Painter) (left right v q a b : ℕ)
    → option_or (clipped f (max left (4 * q)) (min right (4 * q + 16)) v (v + 1) a b)
    (clipped f left (min right (4 * q)) v (v + 1) a b)
    ≡ clipped f left (min right (4 * (q + 4))) v (v + 1) a b
strips_more f left right v q a b = joined _ _ _ (f a b) (grind (arith, nat_tests)) (grind (arith, nat_tests))
