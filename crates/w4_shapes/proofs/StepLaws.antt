-- The steps of a line, one by one.
use Rattle.std.proofs.Common.{◌≡◌, ℕ, zero, suc, ◌+◌, ◌-◌, ◌*◌, ◌/◌, min, max, ◌<◌, ◌≤◌, ◌⊎◌, Bool, true}
use Rattle.std.proofs.Common.{false, ◌&&◌, ◌||◌, cond, Option, None, refl, sym, ◌∙◌, ap, inl, inr, arith}
use Rattle.std.specs.Prelude.{ℤ, pos, nat_le, ◌==◌}
use Rattle.std.specs.List.{range_with_len, list_any}
use Rattle.std.specs.Option.{option_or}
use Rattle.std.proofs.lemmas.Nat.{div-mul-add}
use Rattle.std.proofs.Math.Nat.{div-lt_iff_lt-mul, mul-le-mul_right}
use Rattle.std.proofs.lemmas.Bool.{cases_lt}
use Rattle.std.proofs.lemmas.Bool.Decides.{nat_tests}
use Rattle.w4_defs.specs.Shapes.{only_if, is_at, point_painter, points_painter, apart, toward, moved}
use Rattle.w4_defs.specs.Shapes.{minor_step}
use Rattle.w4_shapes.specs.Painted.{is_point, steps_painter}
use Rattle.w4_pixels.specs.Packed.{dot_painter}
use Rattle.w4_pixels.proofs.ClippingLaws.{union}
use Rattle.w4_shapes.proofs.BoxTests.{at_row}

-- tests that agree on a range
any_ext : (p q : ℕ → Bool) (a n : ℕ) → ((t : ℕ) → a ≤ t → t < a + n → p t ≡ q t)
    → list_any p (range_with_len a n) ≡ list_any q (range_with_len a n)
any_ext p q a zero same = refl
any_ext p q a (suc n) same =
    ap (λ b. b || list_any p (range_with_len (a + 1) n)) (same a (omega arith) (omega arith))
    ∙ ap (λ b. q a || b) (any_ext p q (a + 1) n (λ t low high. same t (omega arith) (omega arith)))

any_none : (p : ℕ → Bool) (a n : ℕ) → ((t : ℕ) → a ≤ t → t < a + n → p t ≡ false)
    → list_any p (range_with_len a n) ≡ false
any_none p a zero off = refl
any_none p a (suc n) off =
    ap (λ b. b || list_any p (range_with_len (a + 1) n)) (off a (omega arith) (omega arith))
    ∙ any_none p (a + 1) n (λ t low high. off t (omega arith) (omega arith))

or_more : (a b c : Bool) → (a || (b || c)) ≡ ((a || b) || c)
or_more true b c = refl
or_more false b c = refl

or_none : (a : Bool) → (a || false) ≡ a
or_none true = refl
or_none false = refl

or_turned : (a b : Bool) → (a || b) ≡ (b || a)
or_turned true true = refl
or_turned true false = refl
or_turned false true = refl
or_turned false false = refl

-- one more number
any_more : (p : ℕ → Bool) (a n b : ℕ) → a + n ≡ b
    → list_any p (range_with_len a (suc n)) ≡ (list_any p (range_with_len a n) || p b)
any_more p a zero b e = or_none (p a) ∙ ap p (omega arith)
any_more p a (suc n) b e =
    ap (λ t. p a || t) (any_more p (a + 1) n b (omega arith))
    ∙ or_more (p a) (list_any p (range_with_len (a + 1) n)) (p b)

-- numbers past the last that passes
any_past : (p : ℕ → Bool) (end more : ℕ) → ((t : ℕ) → end ≤ t → t < end + more → p t ≡ false)
    → list_any p (range_with_len 0 end) ≡ list_any p (range_with_len 0 (end + more))
any_past p end zero off = ap (λ n. list_any p (range_with_len 0 n)) (omega arith)
any_past p end (suc more) off =
    let here : p (end + more) ≡ false = off (end + more) (omega arith) (omega arith) in
    let size : suc (end + more) ≡ end + suc more = omega arith in
    any_past p end more (λ t low high. off t low (omega arith))
    ∙ sym (or_none (list_any p (range_with_len 0 (end + more))))
    ∙ sym (ap (λ b. list_any p (range_with_len 0 (end + more)) || b) here)
    ∙ sym (any_more p 0 (end + more) (end + more) (omega arith))
    ∙ ap (λ n. list_any p (range_with_len 0 n)) size

and_holds : (a b : Bool) → a ≡ true → (a && b) ≡ b
and_holds true b e = refl
and_holds false b e = absurd (cc)

and_fails : (a b : Bool) → a ≡ false → (a && b) ≡ false
and_fails true b e = absurd (cc)
and_fails false b e = refl

-- no step
pub steps_none : (xs ys : ℕ → ℤ) (first u v : ℕ) (index : Option ℕ)
    → steps_painter xs ys first first index u v ≡ None
steps_none xs ys first u v index = ap (λ b. only_if b index)
    (any_none (λ t. nat_le first t && (is_at (xs t) u && is_at (ys t) v)) 0 first
    (λ t low high. and_fails (nat_le first t) (is_at (xs t) u && is_at (ys t) v)
    (grind (arith, nat_tests))))

-- one more step
pub steps_more : (xs ys : ℕ → ℤ) (first step u v : ℕ) (index : Option ℕ) → first ≤ step
    → option_or (point_painter (xs step) (ys step) index u v) (steps_painter xs ys first step index u v)
    ≡ steps_painter xs ys first (step + 1) index u v
steps_more xs ys first step u v index h =
    let here : ℕ → Bool = λ t. is_at (xs t) u && is_at (ys t) v in
    let p : ℕ → Bool = λ t. nat_le first t && here t in
    let now : p step ≡ here step = and_holds (nat_le first step) (here step) (grind (arith, nat_tests)) in
    let before : Bool = list_any p (range_with_len 0 step) in
    let size : suc step ≡ step + 1 = omega arith in
    union (here step) before index ∙ ap (λ b. only_if b index)
    (or_turned (here step) before ∙ sym (ap (λ b. before || b) now)
    ∙ sym (any_more p 0 step step (omega arith)) ∙ ap (λ n. list_any p (range_with_len 0 n)) size)

-- the steps left out are none of the screen's
pub steps_all : (xs ys : ℕ → ℤ) (first end n u v : ℕ) (index : Option ℕ) → end ≤ n
    → ((t : ℕ) → (t < first) ⊎ (end ≤ t) → t < n → (is_at (xs t) u && is_at (ys t) v) ≡ false)
    → steps_painter xs ys first end index u v ≡ points_painter xs ys n index u v
steps_all xs ys first end n u v index h off =
    let here : ℕ → Bool = λ t. is_at (xs t) u && is_at (ys t) v in
    let p : ℕ → Bool = λ t. nat_le first t && here t in
    let size : end + (n - end) ≡ n = omega arith in
    let same : (t : ℕ) → 0 ≤ t → t < 0 + end → p t ≡ here t = λ t low high. elim (cases_lt t first) [
      | inl below ↦ and_fails (nat_le first t) (here t) (grind (arith, nat_tests))
          ∙ sym (off t (inl below) (omega arith))
      | inr above ↦ and_holds (nat_le first t) (here t) (grind (arith, nat_tests))
    ] in
    ap (λ b. only_if b index)
    (any_ext p here 0 end same
    ∙ any_past here end (n - end) (λ t low high. off t (inr low) (omega arith))
    ∙ ap (λ k. list_any here (range_with_len 0 k)) size)

-- ---- the axis of the greater distance

pub each_step : (own other t : ℕ) → other ≤ own → moved own other t ≡ t
each_step own other t h =
    let test : nat_le other own ≡ true = grind (arith, nat_tests) in
    ap (λ (b : Bool). cond b t (minor_step t own other)) test

no_other : (a b : Bool) → b ≡ false → (a && b) ≡ false
no_other true b e = e
no_other false b e = refl

-- where one axis is off the screen, so is the line
pub point_off : (x1 x2 y1 y2 : ℤ) (t u v : ℕ)
    → (is_at (toward x1 x2 (moved (apart x1 x2) (apart y1 y2) t)) u ≡ false)
    ⊎ (is_at (toward y1 y2 (moved (apart y1 y2) (apart x1 x2) t)) v ≡ false)
    → is_point x1 y1 x2 y2 t u v ≡ false
point_off x1 x2 y1 y2 t u v off = elim off [
  | inl column ↦ and_fails _ _ column
  | inr row ↦ no_other _ _ row
]

-- ---- the axis of the lesser distance, step by step

pub lesser_step : (own other t : ℕ) → own < other → moved own other t ≡ minor_step t own other
lesser_step own other t h =
    let test : nat_le other own ≡ false = grind (arith, nat_tests) in
    ap (λ (b : Bool). cond b t (minor_step t own other)) test

-- it never moves further than its distance
pub lesser_most : (t less most : ℕ) → t ≤ most → less < most → minor_step t less most ≤ less
lesser_most t less most h below =
    let product : t * less ≤ most * less = mul-le-mul_right less h in
    let room : t * less + (most - 1) / 2 < suc less * most = grind arith in
    let some : 0 < most = omega arith in
    let stop : minor_step t less most < suc less = (div-lt_iff_lt-mul {k = most} some).1 room in
    omega arith

-- what it has moved, where the sum is kept as a whole number of steps and a rest
pub lesser_moved : (moved rest step less most own other : ℕ) → own < other → less ≡ min own other
    → most ≡ max (max own other) 1 → moved * most + rest ≡ step * less + (most - 1) / 2 → rest < most
    → moved ≡ minor_step step own other
lesser_moved moved rest step less most own other h el em sum below =
    let same_less : less ≡ own = omega arith in
    let same_most : most ≡ other = omega arith in
    sym (div-mul-add moved most rest below) ∙ ap (λ n. n / most) sum
    ∙ ap (λ n. (step * n + (most - 1) / 2) / most) same_less
    ∙ ap (λ n. (step * own + (n - 1) / 2) / n) same_most

-- it never moves further than its distance
pub lesser_small : (step less most moved rest : ℕ) → step ≤ most → rest < most
    → moved * most + rest ≡ step * less + (most - 1) / 2 → moved ≤ less
lesser_small step less most moved rest h below sum = elim (cases_lt less moved) [
  | inl above ↦ (
      let product : step * less ≤ most * less = mul-le-mul_right less h in
      let further : suc less * most ≤ moved * most = mul-le-mul_right most above in
      let split : suc less * most ≡ most * less + most = grind arith in
      absurd (omega arith))
  | inr at_most ↦ at_most
]

pub one_more_step : (step less : ℕ) → step * less + less ≡ (step + 1) * less
one_more_step step less = grind arith

-- the pixel of a number is the point at its column and row
pub dot_point : (u v : ℕ) (x y : ℤ) (index : Option ℕ) (a b : ℕ) → pos u ≡ x → pos v ≡ y
    → dot_painter u v index a b ≡ point_painter x y index a b
dot_point u v x y index a b ex ey =
    ap (λ t. only_if (t && b == v) index) (sym (at_row u a) ∙ ap (λ z. is_at z a) ex)
    ∙ ap (λ t. only_if (is_at x a && t) index) (sym (at_row v b) ∙ ap (λ z. is_at z b) ey)
