-- Of a row the cells within an oval are one interval.
use Rattle.std.proofs.Common.{◌≡◌, ℕ, suc, ◌+◌, ◌-◌, ◌*◌, ◌/◌, ◌≤◌, ◌<◌, Bool, true, false, ◌&&◌, refl, ap}
use Rattle.std.proofs.Common.{◌∙◌, inl, inr, arith}
use Rattle.std.specs.Prelude.{nat_le, nat_lt, ℤ, pos, ◌+ℤ◌, ◌-ℤ◌, ◌<ℤ◌, ◌≤ℤ◌}
use Rattle.std.proofs.Math.Nat.{div-lt_iff_lt-mul, mul-le-mul_right, mul-le-mul_left}
use Rattle.std.proofs.lemmas.Bool.{cases_lt}
use Rattle.std.proofs.lemmas.Bool.Decides.{nat_tests}
use Rattle.std.proofs.lemmas.Int.{ints}
use Rattle.w4_defs.specs.Shapes.{aside}
use Rattle.w4_shapes.specs.OvalCells.{reaches}
use Rattle.w4_shapes.specs.declared.oval_cells.Columns.{Columns}

squares : (a b : ℕ) → a ≤ b → a * a ≤ b * b
squares a b h =
    let first : a * a ≤ b * a = mul-le-mul_right a h in
    let second : b * a ≤ b * b = mul-le-mul_left b h in
    omega arith

-- a cell that is nearer to the middle is within too, one that is further from it isn't either
nearer : (p q limit : ℕ) → p ≤ q → nat_lt (q * q) limit ≡ true → nat_lt (p * p) limit ≡ true
nearer p q limit h e = let less = squares p q h in grind (arith, nat_tests)

further : (p q limit : ℕ) → p ≤ q → nat_lt (p * p) limit ≡ false → nat_lt (q * q) limit ≡ false
further p q limit h e = let less = squares p q h in grind (arith, nat_tests)

-- the left half comes nearer with each column
left_aside : (x : ℤ) (w s t : ℕ) → s ≤ t → pos t ≤ℤ (x +ℤ pos (w / 2))
    → aside ((pos t -ℤ pos 1) -ℤ x) w ≤ aside ((pos s -ℤ pos 1) -ℤ x) w
left_aside x w s t h left = omega (arith, ints)

-- the right half goes further with each column
right_aside : (x : ℤ) (w s t : ℕ) → s ≤ t → (x +ℤ pos (w / 2)) <ℤ pos s
    → aside ((pos s -ℤ pos 1) -ℤ x) w ≤ aside ((pos t -ℤ pos 1) -ℤ x) w
right_aside x w s t h right = omega (arith, ints)

-- ---- columns of the left half

pub left_outside : (columns : Columns) (s k limit : ℕ) → columns.left ≤ s → s ≤ k → k < columns.middle
    → reaches columns.cells limit k ≡ false → reaches columns.cells limit s ≡ false
left_outside columns s k limit first h half e =
    let cells = columns.cells in
    further (aside ((pos k -ℤ pos 1) -ℤ cells.x) cells.w) (aside ((pos s -ℤ pos 1) -ℤ cells.x) cells.w)
    limit
    (left_aside cells.x cells.w s k h ((columns.halves k (omega arith) (omega (arith, columns.high_end))).0
    half)) e

pub left_within : (columns : Columns) (s k limit : ℕ) → columns.left ≤ s → s ≤ k → k < columns.middle
    → reaches columns.cells limit s ≡ true → reaches columns.cells limit k ≡ true
left_within columns s k limit first h half e =
    let cells = columns.cells in
    nearer (aside ((pos k -ℤ pos 1) -ℤ cells.x) cells.w) (aside ((pos s -ℤ pos 1) -ℤ cells.x) cells.w)
    limit
    (left_aside cells.x cells.w s k h ((columns.halves k (omega arith) (omega (arith, columns.high_end))).0
    half)) e

-- ---- columns of the right half

pub right_outside : (columns : Columns) (s k limit : ℕ) → columns.middle ≤ s → s ≤ k → k < columns.right + 2
    → reaches columns.cells limit s ≡ false → reaches columns.cells limit k ≡ false
right_outside columns s k limit first h half e =
    let cells = columns.cells in
    further (aside ((pos s -ℤ pos 1) -ℤ cells.x) cells.w) (aside ((pos k -ℤ pos 1) -ℤ cells.x) cells.w)
    limit
    (right_aside cells.x cells.w s k h ((columns.halves s (omega (arith, columns.low)) (omega arith)).1
    first)) e

pub right_within : (columns : Columns) (s k limit : ℕ) → columns.middle ≤ s → s ≤ k → k < columns.right + 2
    → reaches columns.cells limit k ≡ true → reaches columns.cells limit s ≡ true
right_within columns s k limit first h half e =
    let cells = columns.cells in
    nearer (aside ((pos s -ℤ pos 1) -ℤ cells.x) cells.w) (aside ((pos k -ℤ pos 1) -ℤ cells.x) cells.w)
    limit
    (right_aside cells.x cells.w s k h ((columns.halves s (omega (arith, columns.low)) (omega arith)).1
    first)) e

-- ---- the limit of a row

sum_of : (w a b : ℕ) → w * a + b * w ≡ w * (a + b)
sum_of w a b = grind arith

no_less : (n q a b : ℕ) → q ≤ n → b < a → nat_lt n q ≡ nat_le a b
no_less n q a b h g = grind (arith, nat_tests)

as_much : (n q a b : ℕ) → n < q → a ≤ b → nat_lt n q ≡ nat_le a b
as_much n q a b h g = grind (arith, nat_tests)

next_square : (h f : ℕ) → suc h * suc h ≤ f → suc (h * h) ≤ f
next_square h f e = let square : suc h * suc h ≡ h * h + h + h + 1 = grind arith in omega arith

whole : (w h f rest : ℕ) → rest + f ≡ h → w * rest + f * w ≡ w * h
whole w h f rest e = sum_of w rest f ∙ ap (λ k. w * k) e

limit_by : (n w h f rest : ℕ) → 0 < h → rest + f ≡ h → nat_lt n (w * rest / h + 1)
    ≡ nat_le (n * h + f * w) (w * h)
limit_by n w h f rest some e =
    let all = whole w h f rest e in
    elim (cases_lt (w * rest / h) n) [
      | inl over ↦ (
          let more : w * rest < n * h = (div-lt_iff_lt-mul {k = h} some).0 over in
          no_less n (w * rest / h + 1) (n * h + f * w) (w * h) (omega arith) (omega (arith, all)))
      | inr under ↦ elim (cases_lt (w * rest) (n * h)) [
        | inl more ↦ absurd (omega (arith, (div-lt_iff_lt-mul {k = h} some).1 more))
        | inr less ↦ as_much n (w * rest / h + 1) (n * h + f * w) (w * h) (omega arith) (omega (arith, all))
      ]
    ]

pub limit_within : (n w h far rest : ℕ) → 0 < h → far ≤ h → rest ≡ h * h - far * far
    → nat_lt n (w * w * rest / (h * h) + 1) ≡ nat_le (n * (h * h) + far * far * (w * w)) (w * w * (h * h))
limit_within n w h far rest some near e =
    let less = squares far h near in
    let positive : 1 * 1 ≤ h * h = squares 1 h some in
    limit_by n (w * w) (h * h) (far * far) rest (omega arith) (omega arith)

pub limit_none : (n w h far : ℕ) → 0 < w → h < far
    → nat_lt n 0 ≡ nat_le (n * (h * h) + far * far * (w * w)) (w * w * (h * h))
limit_none n w h far some off =
    let more : suc h * suc h ≤ far * far = squares (suc h) far off in
    let positive : 1 * 1 ≤ w * w = squares 1 w some in
    let beyond : suc (h * h) * (w * w) ≤ far * far * (w * w) = mul-le-mul_right (w * w)
    (next_square h (far * far) more)
    in
    let split : suc (h * h) * (w * w) ≡ w * w * (h * h) + w * w = grind arith in
    no_less n 0 (n * (h * h) + far * far * (w * w)) (w * w * (h * h)) (omega arith) (omega arith)

pub has_left : (test : Bool) (s end : ℕ) → s < end → test ≡ (test && nat_lt s end)
has_left true s end h = grind (arith, nat_tests)
has_left false s end h = refl

pub has_right : (test : Bool) (first s : ℕ) → first ≤ s → test ≡ (nat_le first s && test)
has_right test first s h = let from : nat_le first s ≡ true = grind (arith, nat_tests) in rw from refl
