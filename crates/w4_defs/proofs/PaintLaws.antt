-- The laws of painting. They speak of the definitions alone; callers never unfold `paint`.
use Rattle.std.proofs.Common.{◌≡◌, ℕ, zero, suc, ◌+◌, ◌-◌, ◌*◌, ◌/◌, ◌%◌, ◌^◌, ◌<◌, ◌≤◌, ◌⊎◌, ◌≢◌, List, length, get_or, set, Option, Some, None, unwrap_or, refl, sym, ◌∙◌, ap, subst, inl, inr, arith}
use Rattle.std.specs.Option.{option_or}
use Rattle.std.proofs.lemmas.List.{ext_get_or, get_or_past, get_or-set_same, get_or-set_other, length-set}
use Rattle.std.proofs.lemmas.List.FromFn.{length-map-range_with_len, get_or-map-range_with_len}
use Rattle.std.proofs.lemmas.Bool.Decides.{nat_tests}
use Rattle.std.proofs.lemmas.Bool.{cases_lt, cases_eq}
use Rattle.w4_defs.specs.Framebuffer.{pixel, Painter, painted_pixel, painted_at, packed, painted_byte, paint, over, Paints}

-- a fact of every number below four
pub below_four : (P : ℕ → Type 0) → P 0 → P 1 → P 2 → P 3 → (k : ℕ) → k < 4 → P k
below_four P a b c d zero h = a
below_four P a b c d (suc zero) h = b
below_four P a b c d (suc (suc zero)) h = c
below_four P a b c d (suc (suc (suc zero))) h = d
below_four P a b c d (suc (suc (suc (suc k)))) h = absurd (omega arith)

pub length-paint : (page : List ℕ) (f : Painter) → length (paint page f) ≡ length page
unfolding paint
length-paint page f = length-map-range_with_len (painted_byte page f) 0 (length page)

pub get_or-paint : (page : List ℕ) (f : Painter) (i : ℕ) → i < length page
    → get_or (paint page f) i 0 ≡ painted_byte page f i
unfolding paint
get_or-paint page f i h =
    get_or-map-range_with_len (painted_byte page f) 0 (length page) i i 0 h (omega arith)

-- the k-th of four palette indices in a byte
pub four_digits : (a b c d : ℕ) → a < 4 → b < 4 → c < 4 → d < 4 →
    ((a + 4 * b + 16 * c + 64 * d) / 1 % 4 ≡ a) × ((a + 4 * b + 16 * c + 64 * d) / 4 % 4 ≡ b)
    × ((a + 4 * b + 16 * c + 64 * d) / 16 % 4 ≡ c) × ((a + 4 * b + 16 * c + 64 * d) / 64 % 4 ≡ d)
four_digits a b c d ha hb hc hd = (omega arith, omega arith, omega arith, omega arith)

pub packed_digit : (index : ℕ → ℕ) → ((n : ℕ) → index n < 4) → (n k : ℕ) → k < 4
    → packed index n / 4 ^ k % 4 ≡ index (n + k)
packed_digit index small n k h =
    let all = four_digits (index n) (index (n + 1)) (index (n + 2)) (index (n + 3)) (small n) (small (n + 1))
    (small (n + 2)) (small (n + 3)) in
    let P : ℕ → Type 0 = λ j. packed index n / 4 ^ j % 4 ≡ index (n + j) in
    below_four P (all.0 ∙ ap index (omega arith)) all.1 all.2 all.3 k h

painted_at-small : (page : List ℕ) (f : Painter) (n : ℕ) → painted_at page f n < 4
painted_at-small page f n = omega arith

inside_byte : (page : List ℕ) (f : Painter) (q : ℕ) → q < 6400
    → painted_byte page f (160 + q) ≡ packed (painted_at page f) (4 * q)
inside_byte page f q h = grind (arith, nat_tests)

outside_byte : (page : List ℕ) (f : Painter) (i : ℕ) → (i < 160) ⊎ (6560 ≤ i)
    → painted_byte page f i ≡ get_or page i 0
outside_byte page f i h = grind (arith, nat_tests)

-- the pixels of a painted page
pub pixel-paint : (page : List ℕ) (f : Painter) (x y : ℕ) → length page ≡ 65536 → x < 160 → y < 160
    → pixel (paint page f) x y ≡ painted_pixel page f x y
pixel-paint page f x y len hx hy =
    let q = (160 * y + x) / 4 in
    let here : get_or (paint page f) (160 + q) 0 ≡ painted_byte page f (160 + q) =
    get_or-paint page f (160 + q) (omega arith) in
    let byte : get_or (paint page f) (160 + q) 0 ≡ packed (painted_at page f) (4 * q) =
    here ∙ inside_byte page f q (omega arith) in
    let digit : packed (painted_at page f) (4 * q) / 4 ^ (x % 4) % 4 ≡ painted_at page f (4 * q + x % 4) =
    packed_digit (painted_at page f) (painted_at-small page f) (4 * q) (x % 4) (omega arith) in
    let place : 4 * q + x % 4 ≡ 160 * y + x = omega arith in
    let column : (160 * y + x) % 160 ≡ x = omega arith in
    let row : (160 * y + x) / 160 ≡ y = omega arith in
    rw byte (digit ∙ rw (place, column, row) refl)

-- a fact of every byte: of those outside the framebuffer and of those inside
by_place : (P : ℕ → Type 0) → ((i : ℕ) → (i < 160) ⊎ (6560 ≤ i) → P i) → ((q : ℕ) → q < 6400 → P (160 + q))
    → (i : ℕ) → P i
by_place P out here i = elim (cases_lt i 160) [
  | inl low ↦ out i (inl low)
  | inr above ↦ elim (cases_lt i 6560) [
    | inl below ↦ (let e : 160 + (i - 160) ≡ i = omega arith in subst P e (here (i - 160) (omega arith)))
    | inr high ↦ out i (inr high)
  ]
]

-- a byte is its four digits
packed_byte : (index : ℕ → ℕ) (n b : ℕ) → b < 256 → ((k : ℕ) → k < 4 → index (n + k) ≡ b / 4 ^ k % 4)
    → b ≡ packed index n
packed_byte index n b h each =
    let e0 : index (n + 0) ≡ b / 1 % 4 = each 0 (omega arith) in
    let e1 : index (n + 1) ≡ b / 4 % 4 = each 1 (omega arith) in
    let e2 : index (n + 2) ≡ b / 16 % 4 = each 2 (omega arith) in
    let e3 : index (n + 3) ≡ b / 64 % 4 = each 3 (omega arith) in
    let zero_more : index n ≡ index (n + 0) = ap index (omega arith) in
    omega arith

-- the four pixels of a framebuffer byte
pixel_in_byte : (page : List ℕ) (q k : ℕ) → k < 4
    → pixel page ((4 * q + k) % 160) ((4 * q + k) / 160) ≡ get_or page (160 + q) 0 / 4 ^ k % 4
pixel_in_byte page q k h =
    let place : (160 * ((4 * q + k) / 160) + (4 * q + k) % 160) / 4 ≡ q = omega arith in
    let digit : (4 * q + k) % 160 % 4 ≡ k = omega arith in
    rw (place, digit) refl

packed-small : (page : List ℕ) (f : Painter) (n : ℕ) → packed (painted_at page f) n < 256
packed-small page f n =
    let a : painted_at page f n < 4 = painted_at-small page f n in
    let b : painted_at page f (n + 1) < 4 = painted_at-small page f (n + 1) in
    let c : painted_at page f (n + 2) < 4 = painted_at-small page f (n + 2) in
    let d : painted_at page f (n + 3) < 4 = painted_at-small page f (n + 3) in
    omega arith

pub paint-outside : (page : List ℕ) (f : Painter) (i : ℕ) → (i < 160) ⊎ (6560 ≤ i)
    → get_or (paint page f) i 0 ≡ get_or page i 0
paint-outside page f i out = elim (cases_lt i (length page)) [
  | inl h ↦ get_or-paint page f i h ∙ outside_byte page f i out
  | inr h ↦ get_or_past (paint page f) i 0 (subst (λ (n : ℕ). n ≤ i) (sym (length-paint page f)) h)
      ∙ sym (get_or_past page i 0 h)
]

paint-inside : (page : List ℕ) (f : Painter) (q : ℕ) → length page ≡ 65536 → q < 6400
    → get_or (paint page f) (160 + q) 0 ≡ packed (painted_at page f) (4 * q)
paint-inside page f q len h = get_or-paint page f (160 + q) (omega arith) ∙ inside_byte page f q h

pub paints-paint : (page : List ℕ) (f : Painter) → length page ≡ 65536 → Paints page (paint page f) f
paints-paint page f len = record {
  pixels = λ x y hx hy. pixel-paint page f x y len hx hy;
  outside = λ i out. paint-outside page f i out;
  len = length-paint page f;
  bytes = λ i low high. (
      let place : 160 + (i - 160) ≡ i = omega arith in
      let here : get_or (paint page f) (160 + (i - 160)) 0 ≡ packed (painted_at page f) (4 * (i - 160)) =
      paint-inside page f (i - 160) len (omega arith) in
      let small : packed (painted_at page f) (4 * (i - 160)) < 256 = packed-small page f (4 * (i - 160)) in
      subst (λ (j : ℕ). get_or (paint page f) j 0 < 256) place (subst (λ (b : ℕ). b < 256) (sym here) small));
}

-- a page that has the words' pixels and bytes is the painted page
pub paint_only : (before after : List ℕ) (f : Painter) → length before ≡ 65536 → Paints before after f
    → after ≡ paint before f
paint_only before after f len h =
    let P : ℕ → Type 0 = λ i. get_or after i 0 ≡ get_or (paint before f) i 0 in
    ext_get_or 0 after (paint before f) (h.len ∙ sym (length-paint before f)) (λ i hi. by_place P
    (λ j out. h.outside j out ∙ sym (paint-outside before f j out))
    (λ q hq. packed_byte (painted_at before f) (4 * q) (get_or after (160 + q) 0)
    (h.bytes (160 + q) (omega arith) (omega arith))
    (λ k hk. sym (h.pixels ((4 * q + k) % 160) ((4 * q + k) / 160) (omega arith) (omega arith))
    ∙ pixel_in_byte after q k hk)
    ∙ sym (paint-inside before f q len hq))
    i)

-- painters that agree on the screen paint alike
pub paint_ext : (page : List ℕ) (f g : Painter) → length page ≡ 65536
    → ((x y : ℕ) → x < 160 → y < 160 → f x y ≡ g x y) → paint page f ≡ paint page g
paint_ext page f g len same =
    let h = paints-paint page f len in
    paint_only page (paint page f) g len (record {
      pixels = λ x y hx hy. h.pixels x y hx hy ∙ ap (λ o. unwrap_or o (pixel page x y) % 4) (same x y hx hy);
      outside = h.outside;
      len = h.len;
      bytes = h.bytes;
    })

-- the palette index of one painter over another
over_index : (f g : Option ℕ) (p : ℕ) → unwrap_or g (unwrap_or f p % 4) % 4 ≡ unwrap_or (option_or g f) p % 4
over_index f None p = omega arith
over_index f (Some e) p = refl

-- painting twice is painting the one over the other
pub paint-paint : (page : List ℕ) (f g : Painter) → length page ≡ 65536
    → paint (paint page f) g ≡ paint page (over g f)
paint-paint page f g len =
    let first = paints-paint page f len in
    let second = paints-paint (paint page f) g (length-paint page f ∙ len) in
    paint_only page (paint (paint page f) g) (over g f) len (record {
      pixels = λ x y hx hy. second.pixels x y hx hy
          ∙ ap (λ p. unwrap_or (g x y) p % 4) (first.pixels x y hx hy)
          ∙ over_index (f x y) (g x y) (pixel page x y);
      outside = λ i out. second.outside i out ∙ first.outside i out;
      len = second.len ∙ first.len;
      bytes = second.bytes;
    })

-- painting nothing leaves a page of bytes
pub paint_off : (page : List ℕ) (f : Painter) → length page ≡ 65536 → ((i : ℕ) → get_or page i 0 < 256)
    → ((x y : ℕ) → x < 160 → y < 160 → f x y ≡ None) → page ≡ paint page f
paint_off page f len small none = paint_only page page f len (record {
  pixels = λ x y hx hy. (rw (none x y hx hy) (omega arith));
  outside = λ i out. refl;
  len = refl;
  bytes = λ i low high. small i;
})

-- one more step of a loop that paints
pub paint_step : (page : List ℕ) (f g h : Painter) → length page ≡ 65536
    → ((x y : ℕ) → x < 160 → y < 160 → option_or (g x y) (f x y) ≡ h x y)
    → paint (paint page f) g ≡ paint page h
paint_step page f g h len same = paint-paint page f g len ∙ paint_ext page (over g f) h len same

-- one byte written: its four digits are four pixels of a row, and the painter leaves all others
pub set_paint : (page : List ℕ) (f : Painter) (row q b : ℕ) → length page ≡ 65536 → row < 160 → q < 40
    → b < 256
    → ((i : ℕ) → get_or page i 0 < 256)
    → ((k : ℕ) → k < 4 → b / 4 ^ k % 4 ≡ painted_pixel page f (4 * q + k) row)
    → ((x y : ℕ) → x < 160 → y < 160 → (160 * y + x) / 4 ≢ 40 * row + q → f x y ≡ None)
    → set page (160 + (40 * row + q)) b ≡ paint page f
set_paint page f row q b len hrow hq hb small digits none =
    let at = 160 + (40 * row + q) in
    paint_only page (set page at b) f len (record {
      pixels = λ x y hx hy. elim (cases_eq ((160 * y + x) / 4) (40 * row + q)) [
        | inl e ↦ (
            let column : x ≡ 4 * q + x % 4 = omega arith in
            let line : y ≡ row = omega arith in
            let here : get_or (set page at b) (160 + (160 * y + x) / 4) 0 ≡ b =
            ap (λ p. get_or (set page at b) (160 + p) 0) e
            ∙ get_or-set_same page at b 0 (omega arith) in
            rw here (digits (x % 4) (omega arith) ∙ sym (ap (λ u. painted_pixel page f u row) column)
            ∙ sym (ap (λ v. painted_pixel page f x v) line)))
        | inr n ↦ (
            let here : get_or (set page at b) (160 + (160 * y + x) / 4) 0 ≡ get_or page
            (160 + (160 * y + x) / 4) 0 =
            get_or-set_other page at (160 + (160 * y + x) / 4) b 0 (λ e. n (omega arith)) in
            rw (here, none x y hx hy n) (omega arith))
      ];
      outside = λ i out. get_or-set_other page at i b 0 (λ e. grind arith);
      len = length-set page at b;
      bytes = λ i low high. elim (cases_eq i at) [
        | inl e ↦ subst (λ (v : ℕ). v < 256)
            (sym (ap (λ j. get_or (set page at b) j 0) e ∙ get_or-set_same page at b 0 (omega arith))) hb
        | inr n ↦ subst (λ (v : ℕ). v < 256) (sym (get_or-set_other page at i b 0 n)) (small i)
      ];
    })
