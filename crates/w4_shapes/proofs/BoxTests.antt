-- Tests of boxes of cells.
use Rattle.std.proofs.Common.{◌≡◌, ℕ, ◌+◌, ◌<◌, List, length, Bool, true, false, ◌&&◌, ◌||◌, Option, None}
use Rattle.std.proofs.Common.{refl, ◌∙◌, ap, arith}
use Rattle.std.specs.Prelude.{◌==◌, nat_le, nat_lt, ℤ, pos, ◌+ℤ◌, ◌-ℤ◌, ◌<ℤ◌, ◌≤ℤ◌, int_le, int_lt}
use Rattle.std.specs.Option.{option_or}
use Rattle.std.proofs.lemmas.Bool.Decides.{nat_tests}
use Rattle.std.proofs.lemmas.Int.{ints}
use Rattle.w4_defs.specs.Framebuffer.{Painter, paint, over}
use Rattle.w4_defs.proofs.PaintLaws.{paint-paint, paint_step}
use Rattle.w4_defs.specs.Shapes.{only_if, is_at, is_inside, span_painter, column_painter, box_painter}
use Rattle.w4_defs.specs.Shapes.{outline_painter}
use Rattle.w4_pixels.specs.Clipping.{clipped}
use Rattle.w4_pixels.proofs.ClippingLaws.{union}

pub at_row : (row v : ℕ) → is_at (pos row) v ≡ (v == row)
at_row row v = grind (arith, ints, nat_tests)

-- the test of one coordinate, as a box has it
one_from : (z : ℤ) (u : ℕ) → int_lt (pos u) (z +ℤ pos 1) ≡ int_le (pos u) z
one_from z u = grind (arith, ints)

one_before : (z : ℤ) (u : ℕ) → int_lt (pos u) z ≡ int_le (pos u) (z -ℤ pos 1)
one_before z u = grind (arith, ints)

three : (a b c : Bool) → (a && (b && c)) ≡ ((a && b) && c)
three false b c = refl
three true b c = refl

-- a box of one row is a span, one of one column a column
pub row_box : (x0 x1 y : ℤ) (u v : ℕ) (index : Option ℕ)
    → box_painter x0 x1 y (y +ℤ pos 1) index u v ≡ span_painter x0 x1 y index u v
row_box x0 x1 y u v index = rw (one_from y v) refl

-- a column of the screen is the column of the coordinate
pub column_all : (x top bottom : ℤ) (column first end u v : ℕ) (index : Option ℕ) → x ≡ pos column
    → nat_le first v ≡ int_le top (pos v) → nat_le end v ≡ int_le bottom (pos v)
    → clipped (λ a b. index) column (column + 1) first end u v ≡ column_painter x top bottom index u v
column_all x top bottom column first end u v index e ht hb =
    let here : (nat_le column u && nat_lt u (column + 1)) ≡ is_at x u = grind (arith, ints, nat_tests) in
    let bottom_end : nat_lt v end ≡ int_lt (pos v) bottom = grind (arith, ints, nat_tests) in
    ap (λ t. only_if t index)
    (ap (λ t. t && (nat_le first v && nat_lt v end)) here
    ∙ ap (λ t. is_at x u && (t && nat_lt v end)) ht
    ∙ ap (λ t. is_at x u && (int_le top (pos v) && t)) bottom_end
    ∙ three (is_at x u) (int_le top (pos v)) (int_lt (pos v) bottom))

-- the four sides together, where each side's cells are in the box
sides : (columns rows left right top bottom : Bool) → (left && columns) ≡ left → (right && columns) ≡ right
    → (top && rows) ≡ top → (bottom && rows) ≡ bottom
    → ((right && rows) || ((left && rows) || ((columns && bottom) || (columns && top))))
    ≡ ((columns && rows) && (left || right || top || bottom))
sides columns rows left right top bottom hl hr ht hb = grind arith

-- a first or last column or row is in the box
first_in : (first end : ℤ) (u : ℕ) → first <ℤ end
    → (is_at first u && (int_le first (pos u) && int_lt (pos u) end)) ≡ is_at first u
first_in first end u h = grind (arith, ints)

last_in : (first end : ℤ) (u : ℕ) → first <ℤ end
    → (is_at (end -ℤ pos 1) u && (int_le first (pos u) && int_lt (pos u) end)) ≡ is_at (end -ℤ pos 1) u
last_in first end u h = grind (arith, ints)

-- the four sides of a box, painted one after the other, are its outline
pub four_sides : (left right top bottom : ℤ) (u v : ℕ) (index : Option ℕ) → left <ℤ right → top <ℤ bottom
    → option_or (box_painter (right -ℤ pos 1) right top bottom index u v)
    (option_or (box_painter left (left +ℤ pos 1) top bottom index u v)
    (option_or (box_painter left right (bottom -ℤ pos 1) bottom index u v)
    (box_painter left right top (top +ℤ pos 1) index u v)))
    ≡ outline_painter left right top bottom index u v
four_sides left right top bottom u v index wide high =
    let columns : Bool = int_le left (pos u) && int_lt (pos u) right in
    let rows : Bool = int_le top (pos v) && int_lt (pos v) bottom in
    let all = sides columns rows (is_at left u) (is_at (right -ℤ pos 1) u) (is_at top v)
    (is_at (bottom -ℤ pos 1) v)
    (first_in left right u wide) (last_in left right u wide) (first_in top bottom v high)
    (last_in top bottom v high) in
    let third : Bool = columns && is_at (bottom -ℤ pos 1) v in
    let fourth : Bool = columns && is_at top v in
    let second : Bool = is_at left u && rows in
    let first : Bool = is_at (right -ℤ pos 1) u && rows in
    let two : option_or (only_if third index) (only_if fourth index) ≡ only_if (third || fourth) index =
    union third fourth index in
    let more : option_or (only_if second index) (only_if (third || fourth) index)
    ≡ only_if (second || (third || fourth)) index = union second (third || fourth) index in
    let most : option_or (only_if first index) (only_if (second || (third || fourth)) index)
    ≡ only_if (first || (second || (third || fourth))) index =
    union first (second || (third || fourth)) index in
    let ends = ap (λ (t : Bool). only_if t index) all in
    let last_column : box_painter (right -ℤ pos 1) right top bottom index u v ≡ only_if first index =
    rw (one_before right u) refl in
    let first_column : box_painter left (left +ℤ pos 1) top bottom index u v ≡ only_if second index =
    rw (one_from left u) refl in
    let last_row : box_painter left right (bottom -ℤ pos 1) bottom index u v ≡ only_if third index =
    rw (one_before bottom v) refl in
    let first_row : box_painter left right top (top +ℤ pos 1) index u v ≡ only_if fourth index =
    rw (one_from top v) refl in
    rw (last_column, first_column, last_row, first_row, two, more, most) ends

-- no column or no row, no cell
empty_from : (z count : ℤ) (u : ℕ) → count ≤ℤ pos 0
    → (int_le z (pos u) && int_lt (pos u) (z +ℤ count)) ≡ false
empty_from z count u h = grind (arith, ints)

and_false : (a : Bool) → (a && false) ≡ false
and_false true = refl
and_false false = refl

pub no_columns : (x y w h : ℤ) (u v : ℕ) → w ≤ℤ pos 0 → is_inside x (x +ℤ w) y (y +ℤ h) u v ≡ false
no_columns x y w h u v none =
    ap (λ t. t && (int_le y (pos v) && int_lt (pos v) (y +ℤ h))) (empty_from x w u none)

pub no_rows : (x y w h : ℤ) (u v : ℕ) → h ≤ℤ pos 0 → is_inside x (x +ℤ w) y (y +ℤ h) u v ≡ false
no_rows x y w h u v none =
    ap (λ t. (int_le x (pos u) && int_lt (pos u) (x +ℤ w)) && t) (empty_from y h v none)
    ∙ and_false (int_le x (pos u) && int_lt (pos u) (x +ℤ w))

-- outside the box a rectangle paints nothing
pub outside_box : (inside edge : Bool) (o p : Option ℕ) → inside ≡ false
    → option_or (only_if (inside && edge) o) (only_if inside p) ≡ None
outside_box true edge o p e = absurd (cc)
outside_box false edge o p e = refl

-- four paintings, one after the other
pub four_painted : (page : List ℕ) (a b c d all : Painter) → length page ≡ 65536
    → ((u v : ℕ) → u < 160 → v < 160
    → option_or (d u v) (option_or (c u v) (option_or (b u v) (a u v))) ≡ all u v)
    → paint (paint (paint (paint page a) b) c) d ≡ paint page all
four_painted page a b c d all len same =
    ap (λ p. paint (paint p c) d) (paint-paint page a b len)
    ∙ ap (λ p. paint p d) (paint-paint page (over b a) c len)
    ∙ paint_step page (over c (over b a)) d all len same
