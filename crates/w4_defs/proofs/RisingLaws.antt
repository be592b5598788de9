-- Kept places rise from place 0 within the recording, after each edit, keep and drop too.
use Rattle.std.proofs.Common.{◌≡◌, ◌≢◌, ℕ, ◌+◌, ◌-◌, ◌<◌, ◌≤◌, Bool, true, false, cond, not, ltb, eqb, List, [], ◌∷◌, map, length, ◌⊎◌, inl, inr, refl, sym, ap, ◌∙◌, subst, arith}
use Rattle.std.specs.List.{filter}
use Rattle.std.proofs.lemmas.Bool.{cases_lt, cases_eq, le-ltb, lt-ltb, eq-eqb, ne_eqb, eqb-false, or_parts}
use Rattle.std.proofs.lemmas.Bool.Decides.{nat_tests}
use Rattle.w4_defs.specs.Session.{places_alone, is_kept, with_kept, next_after_drop, without, moved_up, moved_down, stays_after_delete, kept_after_insert, kept_after_delete, Rise, ArePlaces, PlacesStayRight}
use Rattle.w4_defs.proofs.EditedPlaces.{unlink_nothing, stay_by_cases}

length_map : (f : ℕ → ℕ) (places : List ℕ) → length (map f places) ≡ length places
length_map f [] = refl
length_map f (p ∷ places) = omega (arith, length_map f places)

-- ---- insert

raised_rises : (k p q : ℕ) → p < q → moved_up places_alone k p < moved_up places_alone k q
raised_rises k p q h = grind (arith, nat_tests)

raised_within : (k p n : ℕ) → p ≤ n → moved_up places_alone k p ≤ n + 1
raised_within k p n h = grind (arith, nat_tests)

raised_zero : (k : ℕ) → moved_up places_alone k 0 ≡ 0
raised_zero k = grind (arith, nat_tests)

all_raised : (k from n : ℕ) (places : List ℕ) → Rise from n places
    → Rise (moved_up places_alone k from) (n + 1) (map (moved_up places_alone k) places)
all_raised k from n [] h = raised_within k from n h
all_raised k from n (p ∷ places) h = (raised_rises k from p h.0, all_raised k p n places h.1)

after_insert : (n k : ℕ) (places : List ℕ) → ArePlaces n places
    → ArePlaces (n + 1) (kept_after_insert places_alone k places)
after_insert n k [] h = absurd h
after_insert n k (p ∷ places) h =
    let are : ArePlaces (n + 1) (map (moved_up places_alone k) (p ∷ places)) = (
      ap (moved_up places_alone k) h.0 ∙ raised_zero k,
      subst (λ from. Rise from (n + 1) (map (moved_up places_alone k) places)) (raised_zero k)
          (all_raised k 0 n places h.1),
      subst (λ m. m < 1024) (sym (length_map (moved_up places_alone k) places)) h.2,
    ) in
    subst (λ xs. ArePlaces (n + 1) (map (moved_up places_alone k) xs)) (sym (unlink_nothing k (p ∷ places)))
    are

-- ---- delete

true_or_false : (b : Bool) → (b ≡ true) ⊎ (b ≡ false)
true_or_false true = inl refl
true_or_false false = inr refl

-- rising places of which no two are k and k + 1, which a delete of input k would bring together
abbrev RiseApart : ℕ → ℕ → ℕ → List ℕ → Type 0
RiseApart k from n [] = from ≤ n
RiseApart k from n (p ∷ places) = (from < p) × (from ≡ k → p ≢ k + 1) × RiseApart k p n places

lowered_rises : (k p q : ℕ) → p < q → (p ≡ k → q ≢ k + 1)
    → moved_down places_alone k p < moved_down places_alone k q
lowered_rises k p q h apart = elim (cases_eq p k) [
  | inl here ↦ let other : q ≢ k + 1 = apart here in grind (arith, nat_tests)
  | inr other ↦ grind (arith, nat_tests)
]

lowered_within : (k p n : ℕ) → k < n → p ≤ n → moved_down places_alone k p ≤ n - 1
lowered_within k p n below h = grind (arith, nat_tests)

lowered_zero : (k : ℕ) → moved_down places_alone k 0 ≡ 0
lowered_zero k = grind (arith, nat_tests)

all_lowered : (k from n : ℕ) (places : List ℕ) → k < n → RiseApart k from n places
    → Rise (moved_down places_alone k from) (n - 1) (map (moved_down places_alone k) places)
all_lowered k from n [] below h = lowered_within k from n below h
all_lowered k from n (p ∷ places) below h =
    (lowered_rises k from p h.0 h.1, all_lowered k p n places below h.2)

-- where k isn't kept, none meet
apart_without : (k from n : ℕ) (places : List ℕ) → from ≢ k → is_kept places_alone k places ≡ false
    → Rise from n places → RiseApart k from n places
apart_without k from n [] other none h = h
apart_without k from n (p ∷ places) other none h =
    let parts = or_parts (eqb p k) (is_kept places_alone k places) none in
    (h.0, λ same. absurd (other same), apart_without k p n places (eqb-false p k parts.0) parts.1 h.1)

-- where k + 1 is dropped, none meet
lower_start : (from more n : ℕ) (places : List ℕ) → from ≤ more → Rise more n places → Rise from n places
lower_start from more n [] le h = omega arith
lower_start from more n (p ∷ places) le h = (omega (arith, h.0), h.1)

dropped : (k from n : ℕ) (places : List ℕ) → Rise from n places
    → RiseApart k from n (filter (λ x. not (eqb x (k + 1))) places)
dropped k from n [] h = h
dropped k from n (p ∷ places) h = elim (cases_eq p (k + 1)) [
  | inl same ↦
      let rest : RiseApart k from n (filter (λ x. not (eqb x (k + 1))) places) = dropped k from n places
      (lower_start from p n places (omega (arith, h.0)) h.1) in
      subst (λ t. RiseApart k from n (cond (not t) (p ∷ filter (λ x. not (eqb x (k + 1))) places) (filter
      (λ x. not (eqb x (k + 1))) places))) (sym (eq-eqb p (k + 1) same)) rest
  | inr other ↦
      let whole : RiseApart k from n (p ∷ filter (λ x. not (eqb x (k + 1))) places) =
      (h.0, λ here. other, dropped k p n places h.1) in
      subst (λ t. RiseApart k from n (cond (not t) (p ∷ filter (λ x. not (eqb x (k + 1))) places) (filter
      (λ x. not (eqb x (k + 1))) places))) (sym (ne_eqb p (k + 1) other)) whole
]

length_filter : (test : ℕ → Bool) (places : List ℕ) → length (filter test places) ≤ length places
length_filter test [] = omega arith
length_filter test (p ∷ places) = elim (test p) as (λ t. length (cond t (p ∷ filter test places)
    (filter test places)) ≤ length (p ∷ places)) [
      | true ↦ omega (arith, length_filter test places)
      | false ↦ omega (arith, length_filter test places)
    ]

-- those that stay where input K is deleted
abbrev left : ℕ → List ℕ → List ℕ
left k places = filter (stays_after_delete places_alone k places) places

-- place 0 stays, and those above it that do are apart
single_are : (k n : ℕ) (places : List ℕ) → Rise 0 n places
    → (rest : List ℕ) × (left k (0 ∷ places) ≡ 0 ∷ rest) × RiseApart k 0 n rest
    × (length rest ≤ length places)
single_are k n places h =
    let test : ℕ → Bool = λ x. not (eqb x (k + 1)) in
    elim (true_or_false (is_kept places_alone k (0 ∷ places))) [
      | inl kept ↦
          let zero_stays : eqb 0 (k + 1) ≡ false = ne_eqb 0 (k + 1) (λ e. absurd (omega (arith, e))) in (
            filter test places,
            stay_by_cases places_alone k (0 ∷ places)
                ∙ ap (λ t. cond t (filter test (0 ∷ places)) (0 ∷ places)) kept
                ∙ ap (λ t. cond (not t) (0 ∷ filter test places) (filter test places)) zero_stays,
            dropped k 0 n places h,
            length_filter test places,
          )
      | inr not_kept ↦
          let parts = or_parts (eqb 0 k) (is_kept places_alone k places) not_kept in (
            places,
            stay_by_cases places_alone k (0 ∷ places)
                ∙ ap (λ t. cond t (filter test (0 ∷ places)) (0 ∷ places)) not_kept,
            apart_without k 0 n places (eqb-false 0 k parts.0) parts.1 h,
            omega arith,
          )
    ]

delete_from_zero : (n k : ℕ) (places : List ℕ) → k < n → Rise 0 n places → length places < 1024
    → ArePlaces (n - 1) (kept_after_delete places_alone k (0 ∷ places))
delete_from_zero n k places below h few =
    let single = single_are k n places h in
    let rest : List ℕ = single.0 in
    let same : kept_after_delete places_alone k (0 ∷ places) ≡ map (moved_down places_alone k) (0 ∷ rest) =
    ap (map (moved_down places_alone k)) (unlink_nothing k (left k (0 ∷ places))
    ∙ single.1) in
    let are : ArePlaces (n - 1) (map (moved_down places_alone k) (0 ∷ rest)) = (
      lowered_zero k,
      subst (λ from. Rise from (n - 1) (map (moved_down places_alone k) rest)) (lowered_zero k)
          (all_lowered k 0 n rest below single.2),
      omega (arith, length_map (moved_down places_alone k) rest, single.3),
    ) in
    subst (ArePlaces (n - 1)) (sym same) are

after_delete : (n k : ℕ) (places : List ℕ) → k < n → ArePlaces n places
    → ArePlaces (n - 1) (kept_after_delete places_alone k places)
after_delete n k [] below h = absurd h
after_delete n k (p ∷ places) below h =
    subst (λ q. ArePlaces (n - 1) (kept_after_delete places_alone k (q ∷ places))) (sym h.0)
    (delete_from_zero n k places below h.1 h.2)

-- ---- keep and drop

below_other : (p k : ℕ) → p ≤ k → p ≢ k → p < k
below_other p k le other = elim (cases_lt p k) [
  | inl lt ↦ lt
  | inr ge ↦ absurd (other (omega arith))
]

kept_between : (n k from : ℕ) (places : List ℕ) → k ≤ n → from < k → is_kept places_alone k places ≡ false
    → Rise from n places → Rise from n (with_kept places_alone k places)
kept_between n k from [] le above none h = (above, le)
kept_between n k from (p ∷ places) le above none h =
    let parts = or_parts (eqb p k) (is_kept places_alone k places) none in
    elim (cases_lt k p) [
      | inl lt ↦
          let whole : Rise from n (k ∷ p ∷ places) = (above, (lt, h.1)) in
          subst (λ t. Rise from n (cond t (k ∷ p ∷ places) (p ∷ with_kept places_alone k places))) (sym
          (lt-ltb k p lt)) whole
      | inr ge ↦
          let past : p < k = below_other p k ge (eqb-false p k parts.0) in
          let whole : Rise from n (p ∷ with_kept places_alone k places) =
          (h.0, kept_between n k p places le past parts.1 h.1) in
          subst (λ t. Rise from n (cond t (k ∷ p ∷ places) (p ∷ with_kept places_alone k places))) (sym
          (le-ltb k p ge)) whole
    ]

length_with : (k : ℕ) (places : List ℕ) → length (with_kept places_alone k places) ≡ length places + 1
length_with k [] = omega arith
length_with k (p ∷ places) = elim (ltb k p) as (λ t. length (cond t (k ∷ p ∷ places)
    (p ∷ with_kept places_alone k places)) ≡ length (p ∷ places) + 1) [
      | true ↦ omega arith
      | false ↦ omega (arith, length_with k places)
    ]

keep_from_zero : (n k : ℕ) (places : List ℕ) → k ≤ n → is_kept places_alone k (0 ∷ places) ≡ false
    → Rise 0 n places → length (0 ∷ places) < 1024
    → ArePlaces n (with_kept places_alone k (0 ∷ places))
keep_from_zero n k places le none h few =
    let parts = or_parts (eqb 0 k) (is_kept places_alone k places) none in
    let above : 0 < k = below_other 0 k (omega arith) (eqb-false 0 k parts.0) in
    let are : ArePlaces n (0 ∷ with_kept places_alone k places) =
    (refl, kept_between n k 0 places le above parts.1 h, omega (arith, few, length_with k places)) in
    subst (λ t. ArePlaces n (cond t (k ∷ 0 ∷ places) (0 ∷ with_kept places_alone k places))) (sym
    (le-ltb k 0 (omega arith))) are

after_keep : (n k : ℕ) (places : List ℕ) → k ≤ n → is_kept places_alone k places ≡ false
    → length places < 1024 → ArePlaces n places → ArePlaces n (with_kept places_alone k places)
after_keep n k [] le none few h = absurd h
after_keep n k (p ∷ places) le none few h =
    subst (λ q. ArePlaces n (with_kept places_alone k (q ∷ places))) (sym h.0)
    (keep_from_zero n k places le (subst (λ q. is_kept places_alone k (q ∷ places) ≡ false) h.0 none) h.1 few)

told_same : (p : ℕ) (places : List ℕ) → next_after_drop places_alone p places ≡ places
told_same p [] = refl
told_same p (q ∷ places) = refl

without_rises : (k from n : ℕ) (places : List ℕ) → Rise from n places
    → Rise from n (without places_alone k places)
without_rises k from n [] h = h
without_rises k from n (p ∷ places) h = elim (eqb p k) as (λ t. Rise from n (cond t
    (next_after_drop places_alone p places) (p ∷ without places_alone k places))) [
      | true ↦ subst (Rise from n) (sym (told_same p places)) (lower_start from p n places (omega
          (arith, h.0)) h.1)
      | false ↦ (h.0, without_rises k p n places h.1)
    ]

length_without : (k : ℕ) (places : List ℕ) → length (without places_alone k places) ≤ length places
length_without k [] = omega arith
length_without k (p ∷ places) = elim (eqb p k) as (λ t. length (cond t (next_after_drop places_alone p places)
    (p ∷ without places_alone k places)) ≤ length (p ∷ places)) [
      | true ↦ omega (arith, ap length (told_same p places))
      | false ↦ omega (arith, length_without k places)
    ]

drop_from_zero : (n k : ℕ) (places : List ℕ) → k ≢ 0 → Rise 0 n places → length places < 1024
    → ArePlaces n (without places_alone k (0 ∷ places))
drop_from_zero n k places other h few =
    let are : ArePlaces n (0 ∷ without places_alone k places) = (
      refl,
      without_rises k 0 n places h,
      omega
          (arith, few, length_without k places),
    ) in
    subst (λ t. ArePlaces n (cond t (next_after_drop places_alone 0 places)
    (0 ∷ without places_alone k places))) (sym (ne_eqb 0 k (λ e. other (sym e)))) are

after_drop : (n k : ℕ) (places : List ℕ) → k ≢ 0 → ArePlaces n places
    → ArePlaces n (without places_alone k places)
after_drop n k [] other h = absurd h
after_drop n k (p ∷ places) other h =
    subst (λ q. ArePlaces n (without places_alone k (q ∷ places))) (sym h.0)
    (drop_from_zero n k places other h.1 h.2)

pub places_stay_right : PlacesStayRight
places_stay_right n k places h = (
  subst (ArePlaces n) (sym (unlink_nothing k places)) h,
  λ _. after_insert n k places h,
  λ below. after_delete n k places below h,
  λ le none few. after_keep n k places le none few h,
  λ other. after_drop n k places other h,
)
