-- From the number of a line's pixel to that of the next.
use Rattle.std.proofs.Common.{◌≡◌, ℕ, ◌+◌, ◌*◌, ◌-◌, ◌/◌, ◌≤◌, ◌<◌, ◌⊎◌, min, max, inl, inr, sym, ◌∙◌, ap}
use Rattle.std.proofs.Common.{subst, arith}
use Rattle.std.specs.Prelude.{ℤ, pos, negsuc, ◌+ℤ◌, ◌≤ℤ◌}
use Rattle.std.proofs.lemmas.Bool.{cases_lt}
use Rattle.std.proofs.lemmas.Int.{ints}
use Rattle.std.proofs.lemmas.Nat.{div-mul-add}
use Rattle.w4_defs.specs.Shapes.{moved, toward}
use Rattle.w4_shapes.specs.Painted.{IsPixel, OnAxis, across}
use Rattle.w4_shapes.proofs.StepLaws.{each_step, lesser_moved, lesser_step}

-- a step of the longer axis across: down where the other axis has moved
flat_pixel : (x z y w d : ℤ) (m n number next : ℕ) (straight aside : ℤ)
    → (d ≡ pos 1) ⊎ (d ≡ negsuc 0) → z ≡ x +ℤ d → ((n ≡ m) × (w ≡ y)) ⊎ ((m < n) × (w ≡ y +ℤ pos 1))
    → IsPixel x y number → OnAxis z → OnAxis w → straight ≡ d → aside ≡ d +ℤ pos 160
    → (m ≡ n → pos 0 ≤ℤ (pos number +ℤ straight) → pos next ≡ pos number +ℤ straight)
    → (m < n → pos next ≡ pos number +ℤ aside) → IsPixel z w next
flat_pixel x z y w d m n number next straight aside side ez other here on row es ea same more = elim other [
  | inl level ↦ (
      let e = same (sym level.0) (omega (arith, ints)) in
      elim side [ inl right ↦ omega (arith, ints) | inr left ↦ omega (arith, ints) ])
  | inr down ↦ (
      let e = more down.0 in
      elim side [ inl right ↦ omega (arith, ints) | inr left ↦ omega (arith, ints) ])
]

-- a step of the longer axis down: across where the other axis has moved
steep_pixel : (x z y w d : ℤ) (m n number next : ℕ) (straight aside : ℤ)
    → (d ≡ pos 1) ⊎ (d ≡ negsuc 0) → w ≡ y +ℤ pos 1 → ((n ≡ m) × (z ≡ x)) ⊎ ((m < n) × (z ≡ x +ℤ d))
    → IsPixel x y number → OnAxis z → OnAxis w → straight ≡ pos 160 → aside ≡ d +ℤ pos 160
    → (m ≡ n → pos 0 ≤ℤ (pos number +ℤ straight) → pos next ≡ pos number +ℤ straight)
    → (m < n → pos next ≡ pos number +ℤ aside) → IsPixel z w next
steep_pixel x z y w d m n number next straight aside side ew other here on row es ea same more = elim other [
  | inl level ↦ (let e = same (sym level.0) (omega (arith, ints)) in omega (arith, ints))
  | inr across ↦ (
      let e = more across.0 in
      elim side [ inl right ↦ omega (arith, ints) | inr left ↦ omega (arith, ints) ])
]

toward_next : (a b : ℤ) (t : ℕ) → toward a b (t + 1) ≡ toward a b t +ℤ across a b
toward_next a b t = grind (arith, ints)

across_one : (a b : ℤ) → (across a b ≡ pos 1) ⊎ (across a b ≡ negsuc 0)
across_one a b = grind (arith, ints)

toward_down : (a b : ℤ) (t : ℕ) → a ≤ℤ b → toward a b t ≡ a +ℤ pos t
toward_down a b t h = grind (arith, ints)

-- how far the axis of the lesser distance has moved, also where both are alike
pub slope_moved : (far rest step less most own other : ℕ) → own ≤ other → step ≤ other → less ≡ min own other
    → most ≡ max (max own other) 1 → far * most + rest ≡ step * less + (most - 1) / 2 → rest < most
    → far ≡ moved own other step
slope_moved far rest step less most own other h hs el em sum below = elim (cases_lt own other) [
  | inl lesser ↦ lesser_moved far rest step less most own other lesser el em sum below
      ∙ sym (lesser_step own other step lesser)
  | inr alike ↦ (elim (cases_lt 0 own) [
    | inl some ↦ (
        let same : less ≡ most = omega arith in
        sym (div-mul-add far most rest below) ∙ ap (λ n. n / most) sum
        ∙ ap (λ n. (step * n + (most - 1) / 2) / most) same
        ∙ div-mul-add step most ((most - 1) / 2) (omega arith))
    | inr none ↦ (
        let one : most ≡ 1 = omega arith in
        let first : step ≡ 0 = omega arith in
        let once : far * most ≡ far * 1 = ap (λ n. far * n) one in
        let none_yet : step * less ≡ 0 * less = ap (λ n. n * less) first in
        omega (arith, once, none_yet))
  ]) ∙ sym (each_step own other step alike)
]

level_or : (a b : ℤ) (m n : ℕ) → (n ≡ m) ⊎ (n ≡ m + 1)
    → ((n ≡ m) × (toward a b n ≡ toward a b m)) ⊎ ((m < n) × (toward a b n ≡ toward a b m +ℤ across a b))
level_or a b m n one = elim one [
  | inl same ↦ inl (same, ap (toward a b) same)
  | inr more ↦ inr (omega arith, ap (toward a b) more ∙ toward_next a b m)
]

down_or : (a b : ℤ) (m n : ℕ) → a ≤ℤ b → (n ≡ m) ⊎ (n ≡ m + 1)
    → ((n ≡ m) × (toward a b n ≡ toward a b m)) ⊎ ((m < n) × (toward a b n ≡ toward a b m +ℤ pos 1))
down_or a b m n h one = elim one [
  | inl same ↦ inl (same, ap (toward a b) same)
  | inr more ↦ inr (omega arith, omega (arith, ints, toward_down a b n h, toward_down a b m h))
]

-- the pixel after a step of a line that goes down
pub next_pixel : (x1 x2 y1 y2 : ℤ) (wide high t m n number next : ℕ) (straight aside : ℤ) → y1 ≤ℤ y2
    → m ≡ moved (min wide high) (max wide high) t → n ≡ moved (min wide high) (max wide high) (t + 1)
    → (n ≡ m) ⊎ (n ≡ m + 1)
    → IsPixel (toward x1 x2 (moved wide high t)) (toward y1 y2 (moved high wide t)) number
    → OnAxis (toward x1 x2 (moved wide high (t + 1))) → OnAxis (toward y1 y2 (moved high wide (t + 1)))
    → (high ≤ wide → straight ≡ across x1 x2) → (wide < high → straight ≡ pos 160)
    → aside ≡ across x1 x2 +ℤ pos 160
    → (m ≡ n → pos 0 ≤ℤ (pos number +ℤ straight) → pos next ≡ pos number +ℤ straight)
    → (m < n → pos next ≡ pos number +ℤ aside)
    → IsPixel (toward x1 x2 (moved wide high (t + 1))) (toward y1 y2 (moved high wide (t + 1))) next
next_pixel x1 x2 y1 y2 wide high t m n number next straight aside down em en one here on row flat steep ea
    same more = elim (cases_lt wide high) [
      | inl tall ↦ (
          let less : min wide high ≡ wide = omega arith in
          let most : max wide high ≡ high = omega arith in
          let now : m ≡ moved wide high t = em ∙ ap (λ k. moved k (max wide high) t) less
          ∙ ap (λ k. moved wide k t) most in
          let later : n ≡ moved wide high (t + 1) = en ∙ ap (λ k. moved k (max wide high) (t + 1)) less
          ∙ ap (λ k. moved wide k (t + 1)) most in
          let each : moved high wide t ≡ t = each_step high wide t (omega arith) in
          let next_each : moved high wide (t + 1) ≡ t + 1 = each_step high wide (t + 1) (omega arith) in
          let pixel = subst (λ (k : ℕ). IsPixel (toward x1 x2 k) (toward y1 y2 (moved high wide t)) number)
          (sym now) here
          in
          let pixel_too = subst (λ (k : ℕ). IsPixel (toward x1 x2 m) (toward y1 y2 k) number) each pixel in
          let column = subst (λ (k : ℕ). OnAxis (toward x1 x2 k)) (sym later) on in
          let row_too = subst (λ (k : ℕ). OnAxis (toward y1 y2 k)) next_each row in
          let is_pixel : IsPixel (toward x1 x2 n) (toward y1 y2 (t + 1)) next =
          steep_pixel (toward x1 x2 m) (toward x1 x2 n) (toward y1 y2 t) (toward y1 y2 (t + 1))
          (across x1 x2) m n number
          next straight aside (across_one x1 x2)
          (omega (arith, ints, toward_down y1 y2 t down, toward_down y1 y2 (t + 1) down))
          (level_or x1 x2 m n one)
          pixel_too column row_too (steep tall) ea same more in
          subst (λ (k : ℕ). IsPixel (toward x1 x2 (moved wide high (t + 1))) (toward y1 y2 k) next)
          (sym next_each)
          (subst (λ (k : ℕ). IsPixel (toward x1 x2 k) (toward y1 y2 (t + 1)) next) later is_pixel))
      | inr low ↦ (
          let less : min wide high ≡ high = omega arith in
          let most : max wide high ≡ wide = omega arith in
          let now : m ≡ moved high wide t = em ∙ ap (λ k. moved k (max wide high) t) less
          ∙ ap (λ k. moved high k t) most in
          let later : n ≡ moved high wide (t + 1) = en ∙ ap (λ k. moved k (max wide high) (t + 1)) less
          ∙ ap (λ k. moved high k (t + 1)) most in
          let each : moved wide high t ≡ t = each_step wide high t low in
          let next_each : moved wide high (t + 1) ≡ t + 1 = each_step wide high (t + 1) low in
          let pixel = subst (λ (k : ℕ). IsPixel (toward x1 x2 (moved wide high t)) (toward y1 y2 k) number)
          (sym now) here
          in
          let pixel_too = subst (λ (k : ℕ). IsPixel (toward x1 x2 k) (toward y1 y2 m) number) each pixel in
          let row_too = subst (λ (k : ℕ). OnAxis (toward y1 y2 k)) (sym later) row in
          let column = subst (λ (k : ℕ). OnAxis (toward x1 x2 k)) next_each on in
          let is_pixel : IsPixel (toward x1 x2 (t + 1)) (toward y1 y2 n) next =
          flat_pixel (toward x1 x2 t) (toward x1 x2 (t + 1)) (toward y1 y2 m) (toward y1 y2 n)
          (across x1 x2) m n number
          next straight aside (across_one x1 x2) (toward_next x1 x2 t) (down_or y1 y2 m n down one)
          pixel_too column row_too (flat low) ea same more in
          subst (λ (k : ℕ). IsPixel (toward x1 x2 k) (toward y1 y2 (moved high wide (t + 1))) next)
          (sym next_each)
          (subst (λ (k : ℕ). IsPixel (toward x1 x2 (t + 1)) (toward y1 y2 k) next) later is_pixel))
    ]
