-- Which pixels are cells of a box.
use Rattle.std.proofs.Common.{◌≡◌, ℕ, ◌<◌, ◌-◌, Bool, true, false, ◌&&◌, Option, None, refl, arith}
use Rattle.std.specs.Prelude.{ℤ, pos, negsuc, unsigned_abs, ◌<ℤ◌, ◌≤ℤ◌, int_le, int_lt, nat_le}
use Rattle.std.proofs.lemmas.Bool.Decides.{nat_tests}
use Rattle.std.proofs.lemmas.Int.{ints}
use Rattle.w4_defs.specs.Shapes.{only_if, is_inside}

pub passes : (test : Bool) (o : Option ℕ) → test ≡ true → o ≡ only_if test o
passes true o e = refl
passes false o e = absurd (cc)

pub gone : (test : Bool) (o : Option ℕ) → test ≡ false → None ≡ only_if test o
gone true o e = absurd (cc)
gone false o e = refl

pub both : (a b : Bool) → a ≡ true → b ≡ true → (a && b) ≡ true
both true b e f = f
both false b e f = absurd (cc)

pub first_fails : (a b : Bool) → a ≡ false → (a && b) ≡ false
first_fails true b e = absurd (cc)
first_fails false b e = refl

pub second_fails : (a b : Bool) → b ≡ false → (a && b) ≡ false
second_fails true b e = e
second_fails false b e = refl

within_sides : (z0 z1 : ℤ) (u : ℕ) → z0 ≤ℤ pos u → pos u <ℤ z1
    → (int_le z0 (pos u) && int_lt (pos u) z1) ≡ true
within_sides z0 z1 u h g = grind (arith, ints)

before : (z0 z1 : ℤ) (u : ℕ) → pos u <ℤ z0 → (int_le z0 (pos u) && int_lt (pos u) z1) ≡ false
before z0 z1 u h = grind (arith, ints)

after : (z0 z1 : ℤ) (u : ℕ) → z1 ≤ℤ pos u → (int_le z0 (pos u) && int_lt (pos u) z1) ≡ false
after z0 z1 u h = grind (arith, ints)

pub is_cell : (x0 x1 y0 y1 : ℤ) (u v : ℕ) → x0 ≤ℤ pos u → pos u <ℤ x1 → y0 ≤ℤ pos v → pos v <ℤ y1
    → is_inside x0 x1 y0 y1 u v ≡ true
is_cell x0 x1 y0 y1 u v a b c d = both _ _ (within_sides x0 x1 u a b) (within_sides y0 y1 v c d)

pub left_of_box : (x0 x1 y0 y1 : ℤ) (u v : ℕ) → pos u <ℤ x0 → is_inside x0 x1 y0 y1 u v ≡ false
left_of_box x0 x1 y0 y1 u v h = first_fails _ _ (before x0 x1 u h)

pub right_of_box : (x0 x1 y0 y1 : ℤ) (u v : ℕ) → x1 ≤ℤ pos u → is_inside x0 x1 y0 y1 u v ≡ false
right_of_box x0 x1 y0 y1 u v h = first_fails _ _ (after x0 x1 u h)

pub above_box : (x0 x1 y0 y1 : ℤ) (u v : ℕ) → pos v <ℤ y0 → is_inside x0 x1 y0 y1 u v ≡ false
above_box x0 x1 y0 y1 u v h = second_fails _ _ (before y0 y1 v h)

pub below_box : (x0 x1 y0 y1 : ℤ) (u v : ℕ) → y1 ≤ℤ pos v → is_inside x0 x1 y0 y1 u v ≡ false
below_box x0 x1 y0 y1 u v h = second_fails _ _ (after y0 y1 v h)

pub kept_once : (test : Bool) (o : Option ℕ) → only_if test (only_if test o) ≡ only_if test o
kept_once true o = refl
kept_once false o = refl

-- a positive number, as so many cells
pub as_natural : (z : ℤ) → pos 0 <ℤ z → pos (unsigned_abs z) ≡ z
as_natural (pos n) h = refl
as_natural (negsuc n) h = absurd (omega (arith, ints))

-- the first column or row of the screen that has cells, and the end of them
pub first_cell : (x : ℤ) (first : ℕ) → nat_le first first ≡ int_le x (pos first) → x ≤ℤ pos first
first_cell x first same = grind (arith, ints, nat_tests)

pub last_cell : (end_of_cells : ℤ) (end : ℕ) → 0 < end
    → nat_le end (end - 1) ≡ int_le end_of_cells (pos (end - 1)) → pos end ≤ℤ end_of_cells
last_cell end_of_cells end some same = grind (arith, ints, nat_tests)
