-- What each shape paints, asked of the pixels on the screen (WASM-4 reference: hline, vline, rect, oval,
-- line). Coordinates are signed and added exactly; what lies off the screen is skipped; a width, height
-- or length below 1 draws nothing. Project rules: a rect is filled, then outlined; which cells an oval has;
-- which points a line has.
use Rattle.std.specs.Prelude.{◌<◌, ◌≤◌, ◌≡◌, ℕ, ◌+◌, ◌-◌, ◌*◌, ◌/◌, max, Bool, ◌&&◌, ◌||◌, not, List, [], ◌∷◌, map, nat_le, if◌then◌else◌, ℤ, pos, negsuc, ◌+ℤ◌, ◌-ℤ◌, int_le, int_lt, unsigned_abs, Option, Some, None, refl}
use Rattle.std.specs.List.{range_with_len, list_any}
use Rattle.std.specs.Option.{option_or}
use Rattle.w4_defs.specs.Framebuffer.{Painter, over}
use Rattle.w4_defs.specs.Colours.{palette_index}

-- ---- points and boxes

-- the palette index where the test holds, else none
abbrev pub only_if : Bool → Option ℕ → Option ℕ
only_if test index = if test then index else None

-- the coordinate z is that of pixel u
abbrev pub is_at : ℤ → ℕ → Bool
is_at z u = int_le z (pos u) && int_le (pos u) z

-- the pixel is in the box of the columns from x0 to below x1 and the rows from y0 to below y1
abbrev pub is_inside : ℤ → ℤ → ℤ → ℤ → ℕ → ℕ → Bool
is_inside x0 x1 y0 y1 u v =
    (int_le x0 (pos u) && int_lt (pos u) x1) && (int_le y0 (pos v) && int_lt (pos v) y1)

-- a width or height of cells: 0 where the number is negative
abbrev pub natural : ℤ → ℕ
natural (pos n) = n
natural (negsuc n) = 0

-- one pixel, where it is on the screen
abbrev pub point_painter : ℤ → ℤ → Option ℕ → Painter
point_painter x y index u v = only_if (is_at x u && is_at y v) index

-- the pixels of row y from column x0 to below x1
abbrev pub span_painter : ℤ → ℤ → ℤ → Option ℕ → Painter
span_painter x0 x1 y index u v = only_if (int_le x0 (pos u) && int_lt (pos u) x1 && is_at y v) index

-- the pixels of column x from row y0 to below y1
abbrev pub column_painter : ℤ → ℤ → ℤ → Option ℕ → Painter
column_painter x y0 y1 index u v = only_if (is_at x u && int_le y0 (pos v) && int_lt (pos v) y1) index

abbrev pub box_painter : ℤ → ℤ → ℤ → ℤ → Option ℕ → Painter
box_painter x0 x1 y0 y1 index u v = only_if (is_inside x0 x1 y0 y1 u v) index

-- the first and last column and row of a box
abbrev pub outline_painter : ℤ → ℤ → ℤ → ℤ → Option ℕ → Painter
outline_painter x0 x1 y0 y1 index u v =
    only_if (is_inside x0 x1 y0 y1 u v
    && (is_at x0 u || is_at (x1 -ℤ pos 1) u || is_at y0 v || is_at (y1 -ℤ pos 1) v)) index

-- the points (xs t, ys t) for t below n
abbrev pub points_painter : (ℕ → ℤ) → (ℕ → ℤ) → ℕ → Option ℕ → Painter
points_painter xs ys n index u v =
    only_if (list_any (λ t. is_at (xs t) u && is_at (ys t) v) (range_with_len 0 n)) index

-- ---- hline, vline and rect

abbrev pub hline_painter : ℕ → ℤ → ℤ → ℤ → Painter
hline_painter colors x y len = span_painter x (x +ℤ len) y (palette_index colors 1)

abbrev pub vline_painter : ℕ → ℤ → ℤ → ℤ → Painter
vline_painter colors x y len = column_painter x y (y +ℤ len) (palette_index colors 1)

-- colour 1 fills, then colour 2 paints the outline
abbrev pub rect_painter : ℕ → ℤ → ℤ → ℤ → ℤ → Painter
rect_painter colors x y w h =
    over (outline_painter x (x +ℤ w) y (y +ℤ h) (palette_index colors 2))
    (box_painter x (x +ℤ w) y (y +ℤ h) (palette_index colors 1))

-- ---- oval

-- how far the middle of cell i stands from the middle of w cells, in half cells
abbrev pub aside : ℤ → ℕ → ℕ
aside i w = unsigned_abs (((i +ℤ i) +ℤ pos 1) -ℤ pos w)

-- cell (i, j) of w by h cells is within the oval: (2i+1-w)^2 h^2 + (2j+1-h)^2 w^2 <= w^2 h^2
abbrev pub is_within : ℕ → ℕ → ℤ → ℤ → Bool
is_within w h i j =
    nat_le ((aside i w * aside i w) * (h * h) + (aside j h * aside j h) * (w * w)) ((w * w) * (h * h))

-- one of the cell's four neighbours isn't within the oval
abbrev pub is_edge : ℕ → ℕ → ℤ → ℤ → Bool
is_edge w h i j =
    not (is_within w h (i -ℤ pos 1) j && is_within w h (i +ℤ pos 1) j && is_within w h i (j -ℤ pos 1)
    && is_within w h i (j +ℤ pos 1))

-- colour 1 fills the cells within, then colour 2 paints those at the edge
abbrev pub oval_index : ℕ → ℕ → ℕ → ℤ → ℤ → Option ℕ
oval_index colors w h i j =
    only_if (is_within w h i j)
    (option_or (only_if (is_edge w h i j) (palette_index colors 2)) (palette_index colors 1))

abbrev pub oval_painter : ℕ → ℤ → ℤ → ℤ → ℤ → Painter
oval_painter colors x y w h u v =
    only_if (is_inside x (x +ℤ w) y (y +ℤ h) u v)
    (oval_index colors (natural w) (natural h) (pos u -ℤ x) (pos v -ℤ y))

-- ---- line

abbrev pub apart : ℤ → ℤ → ℕ
apart a b = unsigned_abs (b -ℤ a)

-- so many steps from a toward b
abbrev pub toward : ℤ → ℤ → ℕ → ℤ
toward a b steps = if int_le a b then a +ℤ pos steps else a -ℤ pos steps

-- how far the axis of the lesser distance has moved after t of `most` steps: the least whole number that
-- is at least (t less - floor(most / 2)) / most
abbrev pub minor_step : ℕ → ℕ → ℕ → ℕ
minor_step t less most = (t * less + (most - 1) / 2) / most

-- that number: k most >= t less - floor(most / 2) > (k - 1) most, without subtraction
abbrev pub MinorStepIsCeiling : Type 0
MinorStepIsCeiling = (t less most : ℕ) → 0 < most →
    let k = minor_step t less most in
    (t * less ≤ k * most + most / 2) × (k * most + most / 2 < t * less + most)

-- how far an axis has moved after t steps, by its own distance and the other axis's
abbrev pub moved : ℕ → ℕ → ℕ → ℕ
moved own other t = if nat_le other own then t else minor_step t own other

-- the points of a line that starts at its first end, the first and one more for each step of the greater
-- distance
abbrev pub line_from : ℤ → ℤ → ℤ → ℤ → Option ℕ → Painter
line_from x1 y1 x2 y2 = points_painter
    (λ t. toward x1 x2 (moved (apart x1 x2) (apart y1 y2) t))
    (λ t. toward y1 y2 (moved (apart y1 y2) (apart x1 x2) t))
    (max (apart x1 x2) (apart y1 y2) + 1)

-- a line starts at the end with the smaller y, at a tie at the first
abbrev pub line_painter : ℕ → ℤ → ℤ → ℤ → ℤ → Painter
line_painter colors x1 y1 x2 y2 =
    if int_lt y2 y1 then line_from x2 y2 x1 y1 (palette_index colors 1)
    else line_from x1 y1 x2 y2 (palette_index colors 1)

-- ---- worked cases

-- what a painter says of the first pixels of a row
abbrev pub asked : Painter → ℕ → ℕ → List (Option ℕ)
asked f width v = map (λ u. f u v) (range_with_len 0 width)

-- colours 0x0032 at (-3, 150), 10 by 20: the outline has colour 2, the inside colour 1
abbrev pub RectCase : Type 0
RectCase = let f : Painter = rect_painter 50 (negsuc 2) (pos 150) (pos 10) (pos 20) in
    (asked f 8 149 ≡ None ∷ None ∷ None ∷ None ∷ None ∷ None ∷ None ∷ None ∷ [])
    × (asked f 8 150 ≡ Some 2 ∷ Some 2 ∷ Some 2 ∷ Some 2 ∷ Some 2 ∷ Some 2 ∷ Some 2 ∷ None ∷ [])
    × (asked f 8 151 ≡ Some 1 ∷ Some 1 ∷ Some 1 ∷ Some 1 ∷ Some 1 ∷ Some 1 ∷ Some 2 ∷ None ∷ [])
    × (asked f 8 159 ≡ Some 1 ∷ Some 1 ∷ Some 1 ∷ Some 1 ∷ Some 1 ∷ Some 1 ∷ Some 2 ∷ None ∷ [])

pub rect-case : RectCase
rect-case = (refl, refl, refl, refl)

-- 4 by 4 cells: the corners are outside, the four middle cells within, the other eight at the edge;
-- one cell is at the edge; 0 by 5 cells draw nothing
abbrev pub OvalCase : Type 0
OvalCase = let four : Painter = oval_painter 50 (pos 0) (pos 0) (pos 4) (pos 4) in
    let one : Painter = oval_painter 50 (pos 0) (pos 0) (pos 1) (pos 1) in
    let none : Painter = oval_painter 50 (pos 0) (pos 0) (pos 0) (pos 5) in
    (asked four 5 0 ≡ None ∷ Some 2 ∷ Some 2 ∷ None ∷ None ∷ [])
    × (asked four 5 1 ≡ Some 2 ∷ Some 1 ∷ Some 1 ∷ Some 2 ∷ None ∷ [])
    × (asked four 5 2 ≡ Some 2 ∷ Some 1 ∷ Some 1 ∷ Some 2 ∷ None ∷ [])
    × (asked four 5 3 ≡ None ∷ Some 2 ∷ Some 2 ∷ None ∷ None ∷ [])
    × (asked one 2 0 ≡ Some 2 ∷ None ∷ [])
    × (asked none 2 0 ≡ None ∷ None ∷ [])

pub oval-case : OvalCase
oval-case = (refl, refl, refl, refl, refl, refl)

-- (0, 0) to (3, 1) has the points (0, 0), (1, 0), (2, 1) and (3, 1), from either end
abbrev pub LineCase : Type 0
LineCase = let there : Painter = line_painter 2 (pos 0) (pos 0) (pos 3) (pos 1) in
    let back : Painter = line_painter 2 (pos 3) (pos 1) (pos 0) (pos 0) in
    (asked there 5 0 ≡ Some 1 ∷ Some 1 ∷ None ∷ None ∷ None ∷ [])
    × (asked there 5 1 ≡ None ∷ None ∷ Some 1 ∷ Some 1 ∷ None ∷ [])
    × (asked back 5 0 ≡ Some 1 ∷ Some 1 ∷ None ∷ None ∷ None ∷ [])
    × (asked back 5 1 ≡ None ∷ None ∷ Some 1 ∷ Some 1 ∷ None ∷ [])

pub line-case : LineCase
line-case = (refl, refl, refl, refl)
