-- What a byte with a palette index in some of its digits shows.
use Rattle.std.proofs.Common.{append_assoc, ◌⊎◌, subst, ◌++◌, take, drop, length, replicate, ◌≡◌, ℕ, ◌+◌, ◌-◌}
use Rattle.std.proofs.Common.{◌*◌, ◌/◌, ◌%◌, ◌^◌, ◌<◌, ◌≤◌, Bool, true, false, ◌&&◌, ◌||◌, cond, List, get_or}
use Rattle.std.proofs.Common.{Option, Some, unwrap_or, refl, sym, ◌∙◌, ap, inl, inr, arith}
use Rattle.std.specs.Prelude.{ℤ, pos, int_le, ◌==◌, nat_le, nat_lt, if◌then◌else◌}
use Rattle.std.specs.Option.{option_or}
use Rattle.std.proofs.lemmas.Bool.{cases_eq, cases_lt}
use Rattle.std.proofs.lemmas.Bool.Decides.{nat_tests}
use Rattle.std.proofs.lemmas.Int.{ints}
use Rattle.std.proofs.lemmas.List.{get_or-replicate, length-replicate, length-take, length-drop, drop-drop}
use Rattle.std.proofs.Math.Nat.{zero-div}
use borrow.Rule.Slice.PartMut.{put_mid, mid_of}
use Rattle.w4_defs.specs.Framebuffer.{painted_pixel, paint}
use Rattle.w4_defs.specs.Shapes.{only_if, span_painter}
use Rattle.w4_defs.proofs.PaintLaws.{paint_only}
use Rattle.w4_defs.proofs.RegisterLaws.{spliced}
use Rattle.w4_pixels.specs.Clipping.{clipped}
use Rattle.w4_pixels.proofs.ClippingLaws.{union}
use Rattle.w4_pixels.specs.Packed.{Chooses, bytes_painter, masked_painter, dot_painter, one_of_four}
use Rattle.w4_pixels.specs.Packed.{quad_painter, zero_painter}

chosen_index : (test : Bool) (index digit new : ℕ) → new < 4 → new ≡ cond test index digit
    → new ≡ unwrap_or (only_if test (Some index)) digit % 4
chosen_index true index digit new h e = omega arith
chosen_index false index digit new h e = omega arith

-- the pixels of a byte that a mask chooses
pub mask_digit : (page : List ℕ) (q row mask index k digit : ℕ) → digit < 4 → k < 4
    → digit ≡ (if mask / 4 ^ k % 4 == 3 then index else get_or page (160 + (40 * row + q)) 0 / 4 ^ k % 4)
    → digit ≡ painted_pixel page (masked_painter q row mask (Some index)) (4 * q + k) row
mask_digit page q row mask index k digit hd hk e =
    let byte_is : (160 * row + (4 * q + k)) / 4 ≡ 40 * row + q = omega arith in
    let which : (4 * q + k) % 4 ≡ k = omega arith in
    let here : ((4 * q + k) / 4 == q) ≡ true = grind (arith, nat_tests) in
    let line : (row == row) ≡ true = grind (arith, nat_tests) in
    rw (byte_is, which, here, line)
    (chosen_index (mask / 4 ^ k % 4 == 3) index (get_or page (160 + (40 * row + q)) 0 / 4 ^ k % 4) digit hd e)

-- one pixel of a byte
pub dot_digit : (page : List ℕ) (u v k index digit : ℕ) → u < 160 → digit < 4 → k < 4
    → digit ≡ (if k == u % 4 then index else get_or page (160 + (40 * v + u / 4)) 0 / 4 ^ k % 4)
    → digit ≡ painted_pixel page (dot_painter u v (Some index)) (4 * (u / 4) + k) v
dot_digit page u v k index digit hu hd hk e =
    let byte_is : (160 * v + (4 * (u / 4) + k)) / 4 ≡ 40 * v + u / 4 = omega arith in
    let which : (4 * (u / 4) + k) % 4 ≡ k = omega arith in
    let test : (4 * (u / 4) + k == u && v == v) ≡ (k == u % 4) = grind (arith, nat_tests) in
    rw (byte_is, which, test)
    (chosen_index (k == u % 4) index (get_or page (160 + (40 * v + u / 4)) 0 / 4 ^ k % 4) digit hd e)

-- the pixels of a byte, each by itself
pub quad_digit : (page : List ℕ) (q row k digit : ℕ) (first second third fourth : Option ℕ) → k < 4
    → digit ≡ unwrap_or (one_of_four k first second third fourth)
    (get_or page (160 + (40 * row + q)) 0 / 4 ^ k % 4) % 4
    → digit ≡ painted_pixel page (quad_painter q row first second third fourth) (4 * q + k) row
quad_digit page q row k digit first second third fourth hk e =
    let byte_is : (160 * row + (4 * q + k)) / 4 ≡ 40 * row + q = omega arith in
    let which : (4 * q + k) % 4 ≡ k = omega arith in
    let test : ((4 * q + k) / 4 == q && row == row) ≡ true = grind (arith, nat_tests) in
    rw (byte_is, which, test) e

-- what a mask chooses, by the columns that it is made for
chosen : (test : Bool) → ((if test then 3 else 0) == 3) ≡ test
chosen true = refl
chosen false = refl

mask_test : (q row mask low high u v : ℕ) → Chooses low high mask
    → (u / 4 == q && v == row && mask / 4 ^ (u % 4) % 4 == 3)
    ≡ (u / 4 == q && v == row && (nat_le low (u % 4) && nat_lt (u % 4) high))
mask_test q row mask low high u v chooses =
    rw (chooses (u % 4) (omega arith), chosen (nat_le low (u % 4) && nat_lt (u % 4) high)) refl

-- a row whose columns share a byte
pub narrow_row : (first end row mask index u v : ℕ) → first < end → first / 4 ≡ (end - 1) / 4
    → Chooses (first % 4) (end - 4 * (first / 4)) mask
    → masked_painter (first / 4) row mask (Some index) u v
    ≡ clipped (λ a b. Some index) first end row (row + 1) u v
narrow_row first end row mask index u v some narrow chooses =
    ap (λ t. only_if t (Some index))
    (mask_test (first / 4) row mask (first % 4) (end - 4 * (first / 4)) u v chooses
    ∙ grind (arith, nat_tests))

-- the first byte of a row, the bytes between, and the last
pub wide_row : (first end row left right index u v : ℕ) → first / 4 < (end - 1) / 4
    → Chooses (first % 4) 4 left → Chooses 0 (end - 4 * ((end - 1) / 4)) right
    → option_or (masked_painter ((end - 1) / 4) row right (Some index) u v)
    (option_or (bytes_painter (first / 4 + 1) ((end - 1) / 4) row (Some index) u v)
    (masked_painter (first / 4) row left (Some index) u v))
    ≡ clipped (λ a b. Some index) first end row (row + 1) u v
wide_row first end row left right index u v wide low high =
    let last = (end - 1) / 4 in
    let one : Bool = u / 4 == first / 4 && v == row && (nat_le (first % 4) (u % 4) && nat_lt (u % 4) 4) in
    let two : Bool = (nat_le (first / 4 + 1) (u / 4) && nat_lt (u / 4) last) && v == row in
    let three : Bool = u / 4 == last && v == row && (nat_le 0 (u % 4) && nat_lt (u % 4) (end - 4 * last)) in
    let all : (three || (two || one))
    ≡ ((nat_le first u && nat_lt u end) && (nat_le row v && nat_lt v (row + 1))) =
    grind (arith, nat_tests) in
    rw (
      mask_test (first / 4) row left (first % 4) 4 u v low,
      mask_test last row right 0 (end - 4 * last) u v high,
      union two one (Some index),
      union three (two || one) (Some index),
      all,
    ) refl

-- a span in columns of the screen is the span of the coordinates
pub span_row : (x0 x1 y : ℤ) (first end row u v : ℕ) (index : Option ℕ)
    → nat_le first u ≡ int_le x0 (pos u) → nat_le end u ≡ int_le x1 (pos u) → y ≡ pos row
    → clipped (λ a b. index) first end row (row + 1) u v ≡ span_painter x0 x1 y index u v
span_row x0 x1 y first end row u v index low high line =
    ap (λ t. only_if t index) (grind (arith, ints, nat_tests))

zero_digit : (k : ℕ) → 0 / 4 ^ k % 4 ≡ 0
zero_digit k = ap (λ d. d % 4) (zero-div (4 ^ k))

-- a page whose framebuffer's bytes are 0 is a page of pixels 0
zero_bytes : (page new : List ℕ) → length page ≡ 65536 → length new ≡ length page
    → ((q : ℕ) → q < 6400 → get_or new (160 + q) 0 ≡ 0)
    → ((i : ℕ) → (i < 160) ⊎ (6560 ≤ i) → get_or new i 0 ≡ get_or page i 0) → new ≡ paint page zero_painter
zero_bytes page new len size zero same = paint_only page new zero_painter len (record {
  pixels = λ x y hx hy. (rw (zero ((160 * y + x) / 4) (omega arith)) (zero_digit (x % 4)));
  outside = same;
  len = size;
  bytes = λ i low high. (
      let here : get_or new (160 + (i - 160)) 0 ≡ 0 = zero (i - 160) (omega arith) in
      let byte_is : 160 + (i - 160) ≡ i = omega arith in
      subst (λ (j : ℕ). get_or new j 0 < 256) byte_is (subst (λ (b : ℕ). b < 256) (sym here) (omega arith)));
})

mid_size : (xs : List ℕ) (a k : ℕ) → a + k ≤ length xs → length (mid_of a k xs) ≡ k
mid_size xs a k h = simp (length-take, length-drop) (omega arith)

-- bytes of a row filled in place, each with four times the palette index
filled_digit : (page new : List ℕ) (first end row byte index x y : ℕ) → end ≤ 40 → index < 4
    → ((k : ℕ) → k < 4 → byte / 4 ^ k % 4 ≡ index)
    → ((j : ℕ) → j < end - first → get_or new (160 + 40 * row + first + j) 0 ≡ byte)
    → ((i : ℕ) → (i < 160 + 40 * row + first) ⊎ (160 + 40 * row + end ≤ i) → get_or new i 0 ≡ get_or page i 0)
    → x < 160
    → get_or new (160 + (160 * y + x) / 4) 0 / 4 ^ (x % 4) % 4
    ≡ painted_pixel page (bytes_painter first end row (Some index)) x y
filled_digit page new first end row byte index x y he hi digits inside outside hx =
    let place : 160 + (160 * y + x) / 4 ≡ 160 + 40 * y + x / 4 = omega arith in
    let left : get_or new (160 + (160 * y + x) / 4) 0 ≡ get_or page (160 + (160 * y + x) / 4) 0
    → ((nat_le first (x / 4) && nat_lt (x / 4) end) && y == row) ≡ false
    → get_or new (160 + (160 * y + x) / 4) 0 / 4 ^ (x % 4) % 4
    ≡ painted_pixel page (bytes_painter first end row (Some index)) x y =
    λ same no. rw (same, no) (omega arith) in
    elim (cases_eq y row) [
      | inr n ↦ left (outside _ (grind arith)) (grind (arith, nat_tests))
      | inl e ↦ elim (cases_lt (x / 4) first) [
        | inl low ↦ left (outside _ (inl (omega arith))) (grind (arith, nat_tests))
        | inr from ↦ elim (cases_lt (x / 4) end) [
          | inr high ↦ left (outside _ (inr (omega arith))) (grind (arith, nat_tests))
          | inl below ↦ (
              let yes : ((nat_le first (x / 4) && nat_lt (x / 4) end) && y == row) ≡ true =
              grind (arith, nat_tests) in
              let here : 160 + (160 * y + x) / 4 ≡ 160 + 40 * row + first + (x / 4 - first) = omega arith in
              let filled : get_or new (160 + (160 * y + x) / 4) 0 ≡ byte =
              ap (λ i. get_or new i 0) here ∙ inside (x / 4 - first) (omega arith) in
              rw (filled, digits (x % 4) (omega arith), yes) (omega arith))
        ]
      ]
    ]

pub bytes_filled : (page filled : List ℕ) (first end row byte index a k n : ℕ) → first ≤ end → end ≤ 40
    → row < 160
    → byte < 256 → a ≡ 160 + 40 * row + first → n ≡ 160 + 40 * row + end → a + k ≡ n
    → length page ≡ 65536 → ((i : ℕ) → get_or page i 0 < 256)
    → ((j : ℕ) → j < 4 → byte / 4 ^ j % 4 ≡ index)
    → filled ≡ replicate (length (mid_of a k page)) byte
    → put_mid a k page filled ≡ paint page (bytes_painter first end row (Some index))
bytes_filled page filled first end row byte index a k n order he hrow hb ea en ek len small digits all =
    let first_digit = digits 0 (omega arith) in
    let hi : index < 4 = omega arith in
    let new = put_mid a k page filled in
    let e : filled ≡ replicate k byte = all ∙ ap (λ m. replicate m byte) (mid_size page a k (omega arith)) in
    let size : length filled ≡ k = ap length e ∙ length-replicate {A = ℕ} k byte in
    let flat : put_mid a k page filled ≡ take a page ++ filled ++ drop n page =
    ap (λ t. take a page ++ (filled ++ t)) (drop-drop k a page ∙ ap (λ j. drop j page) ek)
    ∙ sym (append_assoc (take a page) filled (drop n page)) in
    let parts = spliced page filled a n (omega arith) (omega arith) in
    let inside : (j : ℕ) → j < end - first → get_or new (160 + 40 * row + first + j) 0 ≡ byte = λ j hj.
    ap (λ i. get_or new (i + j) 0) (sym ea) ∙ ap (λ l. get_or l (a + j) 0) flat ∙ parts.1 j (omega arith)
    ∙ ap (λ f. get_or f j 0) e ∙ get_or-replicate k j byte 0 (omega arith) in
    let outside : (i : ℕ) → (i < 160 + 40 * row + first) ⊎ (160 + 40 * row + end ≤ i)
    → get_or new i 0 ≡ get_or page i 0 = λ i out. ap (λ l. get_or l i 0) flat ∙ parts.2 i (grind arith) in
    paint_only page new (bytes_painter first end row (Some index)) len (record {
      pixels = λ x y hx hy. filled_digit page new first end row byte index x y he hi digits inside outside hx;
      outside = λ i out. outside i (grind arith);
      len = ap length flat ∙ parts.0;
      bytes = λ i low high. elim (cases_lt i a) [
        | inl below ↦ subst (λ (v : ℕ). v < 256) (sym (outside i (inl (omega arith)))) (small i)
        | inr from ↦ elim (cases_lt i n) [
          | inr above ↦ subst (λ (v : ℕ). v < 256) (sym (outside i (inr (omega arith)))) (small i)
          | inl below ↦ (
              let place : 160 + 40 * row + first + (i - a) ≡ i = omega arith in
              subst (λ (j : ℕ). get_or new j 0 < 256) place
              (subst (λ (v : ℕ). v < 256) (sym (inside (i - a) (omega arith))) hb))
        ]
      ];
    })

-- the framebuffer filled in place
pub zero_filled : (page filled : List ℕ) (a k n : ℕ) → a ≡ 160 → k ≡ 6400 → a + k ≡ n → length page ≡ 65536
    → filled ≡ replicate (length (mid_of a k page)) 0 → put_mid a k page filled ≡ paint page zero_painter
zero_filled page filled a k n ea ek en len all =
    let e : filled ≡ replicate k 0 = all ∙ ap (λ m. replicate m 0) (mid_size page a k (omega arith)) in
    let size : length filled ≡ k = ap length e ∙ length-replicate {A = ℕ} k 0 in
    let flat : put_mid a k page filled ≡ take a page ++ filled ++ drop n page =
    ap (λ t. take a page ++ (filled ++ t)) (drop-drop k a page ∙ ap (λ j. drop j page) en)
    ∙ sym (append_assoc (take a page) filled (drop n page)) in
    let parts = spliced page filled a n (omega arith) (omega arith) in
    flat ∙ zero_bytes page (take a page ++ filled ++ drop n page) len parts.0
    (λ q hq. ap (λ j. get_or (take a page ++ filled ++ drop n page) (j + q) 0) (sym ea)
    ∙ parts.1 q (omega arith) ∙ ap (λ f. get_or f q 0) e ∙ get_or-replicate k q 0 0 (omega arith))
    (λ i out. parts.2 i (grind arith))
