-- Steps of a loop that asks a painter for each pixel of a box, for this crate and those above.
use Rattle.std.proofs.Common.{◌≡◌, ℕ, ◌+◌, ◌*◌, ◌/◌, ◌%◌, ◌≤◌, max, min, Bool, true, false, ◌&&◌, ◌||◌}
use Rattle.std.proofs.Common.{Option, Some, None, refl, sym, ◌∙◌, ap, inl, inr, arith}
use Rattle.std.specs.Prelude.{◌==◌, nat_le, nat_lt, ℤ, pos, int_le, int_lt}
use Rattle.std.specs.Option.{option_or}
use Rattle.std.proofs.lemmas.Bool.{cases_eq}
use Rattle.std.proofs.lemmas.Bool.Decides.{nat_tests}
use Rattle.std.proofs.lemmas.Int.{ints}
use Rattle.w4_defs.specs.Framebuffer.{Painter}
use Rattle.w4_defs.specs.Shapes.{only_if, is_inside}
use Rattle.w4_defs.proofs.PaintLaws.{below_four}
use Rattle.w4_pixels.specs.Clipping.{clipped}
use Rattle.w4_pixels.specs.Packed.{byte_painter, one_of_four, quad_painter}

-- no column, no row
pub boxed_none : (f : Painter) (left right top bottom a b : ℕ) → right ≤ left
    → clipped f left right top bottom a b ≡ None
boxed_none f left right top bottom a b h = grind (arith, nat_tests)

pub boxed_no_row : (f : Painter) (left right top bottom a b : ℕ) → bottom ≤ top
    → clipped f left right top bottom a b ≡ None
boxed_no_row f left right top bottom a b h = grind (arith, nat_tests)

-- one palette index, where one test or the other holds
pub union : (s t : Bool) (o : Option ℕ) → option_or (only_if s o) (only_if t o) ≡ only_if (s || t) o
union true true None = refl
union true false None = refl
union true t (Some n) = refl
union false t o = refl

-- two parts of a painter, of which a pixel is in one at most, are the painter in both
either : (first second both : Bool) (o : Option ℕ) → (first && second) ≡ false → both ≡ (first || second)
    → option_or (only_if first o) (only_if second o) ≡ only_if both o
either true true both o h e = absurd (cc)
either true false both None h e = ap (λ t. only_if t None) (sym e)
either true false both (Some n) h e = ap (λ t. only_if t (Some n)) (sym e)
either false second both o h e = ap (λ t. only_if t o) (sym e)

pub away : (test : Bool) (o p : Option ℕ) → test ≡ false → only_if test o ≡ only_if test p
away true o p e = absurd (cc)
away false o p e = refl

only_if-twice : (first second : Bool) (o : Option ℕ)
    → only_if first (only_if second o) ≡ only_if (first && second) o
only_if-twice true second o = refl
only_if-twice false second o = refl

-- one more row
pub row_more : (f : Painter) (left right top v a b : ℕ) → top ≤ v
    → option_or (clipped f left right v (v + 1) a b) (clipped f left right top v a b) ≡ clipped f left
    right top (v + 1) a b
row_more f left right top v a b h = either _ _ _ (f a b) (grind (arith, nat_tests)) (grind (arith, nat_tests))

-- one more pixel of a column
pub dot_more : (u top v a b : ℕ) (index : Option ℕ) → top ≤ v
    → option_or (only_if (a == u && b == v) index) (clipped (λ x y. index) u (u + 1) top v a b)
    ≡ clipped (λ x y. index) u (u + 1) top (v + 1) a b
dot_more u top v a b index h = either _ _ _ index (grind (arith, nat_tests)) (grind (arith, nat_tests))

-- the end of a loop over columns, and over rows
pub boxed_past : (f : Painter) (left end u top bottom a b : ℕ) → end ≤ u → u ≤ max left end
    → clipped f left u top bottom a b ≡ clipped f left end top bottom a b
boxed_past f left end u top bottom a b h g = ap (λ t. only_if t (f a b)) (grind (arith, nat_tests))

pub boxed_down : (f : Painter) (left right top end v a b : ℕ) → end ≤ v → v ≤ max top end
    → clipped f left right top v a b ≡ clipped f left right top end a b
boxed_down f left right top end v a b h g = ap (λ t. only_if t (f a b)) (grind (arith, nat_tests))

-- the four pixels of a byte, each asked by itself
pub four_asked : (f : Painter) (q v a b : ℕ) (first second third fourth : Option ℕ)
    → first ≡ f (4 * q) v → second ≡ f (4 * q + 1) v → third ≡ f (4 * q + 2) v → fourth ≡ f (4 * q + 3) v
    → quad_painter q v first second third fourth a b ≡ byte_painter f q v a b
four_asked f q v a b first second third fourth e0 e1 e2 e3 = elim (cases_eq (a / 4) q) [
  | inl ea ↦ elim (cases_eq b v) [
    | inl eb ↦ (
        let P : ℕ → Type 0 = λ k. one_of_four k first second third fourth ≡ f (4 * q + k) v in
        let cell : one_of_four (a % 4) first second third fourth ≡ f (4 * q + a % 4) v =
        below_four P (e0 ∙ ap (λ u. f u v) (omega arith)) e1 e2 e3 (a % 4) (omega arith) in
        let byte_is : 4 * q + a % 4 ≡ a = omega arith in
        ap (only_if (a / 4 == q && b == v)) (cell ∙ ap (λ u. f u v) byte_is ∙ ap (f a) (sym eb)))
    | inr n ↦ away (a / 4 == q && b == v) _ _ (grind (arith, nat_tests))
  ]
  | inr n ↦ away (a / 4 == q && b == v) _ _ (grind (arith, nat_tests))
]

-- the cells of one more byte of a row
pub byte_more : (f : Painter) (left right v q a b : ℕ)
    → option_or (byte_painter (clipped f left right v (v + 1)) q v a b)
    (clipped f left (min right (4 * q)) v (v + 1) a b)
    ≡ clipped f left (min right (4 * (q + 1))) v (v + 1) a b
byte_more f left right v q a b =
    let both : byte_painter (clipped f left right v (v + 1)) q v a b
    ≡ only_if ((a / 4 == q && b == v)
    && ((nat_le left a && nat_lt a right) && (nat_le v b && nat_lt b (v + 1)))) (f a b) =
    only_if-twice _ _ (f a b) in
    rw both (either _ _ _ (f a b) (grind (arith, nat_tests)) (grind (arith, nat_tests)))

-- the end of a loop over a row's bytes
pub bytes_done : (f : Painter) (left right q a b v : ℕ) → right ≤ 4 * q
    → clipped f left (min right (4 * q)) v (v + 1) a b ≡ clipped f left right v (v + 1) a b
bytes_done f left right q a b v h = ap (λ n. clipped f left n v (v + 1) a b) (omega arith)

-- a box in columns and rows of the screen is the box of the coordinates
pub boxed_all : (f : Painter) (x0 x1 y0 y1 : ℤ) (left right top bottom u v : ℕ)
    → nat_le left u ≡ int_le x0 (pos u) → nat_le right u ≡ int_le x1 (pos u)
    → nat_le top v ≡ int_le y0 (pos v) → nat_le bottom v ≡ int_le y1 (pos v)
    → clipped f left right top bottom u v ≡ only_if (is_inside x0 x1 y0 y1 u v) (f u v)
boxed_all f x0 x1 y0 y1 left right top bottom u v hl hr ht hb =
    let right_end : nat_lt u right ≡ int_lt (pos u) x1 = grind (arith, ints, nat_tests) in
    let bottom_end : nat_lt v bottom ≡ int_lt (pos v) y1 = grind (arith, ints, nat_tests) in
    rw (hl, right_end, ht, bottom_end) refl
