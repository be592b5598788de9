-- Which places are kept after an edit.
use Rattle.std.proofs.Common.{◌≡◌, ℕ, ◌+◌, ◌-◌, Bool, true, false, cond, not, ltb, leb, eqb, List, [], ◌∷◌, map, inl, inr, refl, sym, ap, ◌∙◌, subst, ◌||◌, ◌&&◌, arith}
use Rattle.std.specs.List.{filter}
use Rattle.std.proofs.lemmas.Bool.{cases_eq, le-leb}
use Rattle.std.proofs.lemmas.Bool.Decides.{nat_tests}
use Rattle.w4_defs.specs.Session.{Kind, places_alone, is_kept, unlink_above, place_after_insert, place_after_delete, stays_after_delete, PlacesAfterEdits}

-- ---- links, and what stays

both_same : (b : Bool) (places : List ℕ) → cond b places places ≡ places
both_same true places = refl
both_same false places = refl

-- places alone have no links
pub unlink_nothing : (k : ℕ) (places : List ℕ) → unlink_above places_alone k places ≡ places
unlink_nothing k [] = refl
unlink_nothing k (p ∷ places) =
    ap (λ rest. cond (ltb k p) (p ∷ places) (p ∷ rest)) (unlink_nothing k places)
    ∙ both_same (ltb k p) (p ∷ places)

all_stay : {A : Type 0} (kept : List A) → filter (λ x. true) kept ≡ kept
all_stay [] = refl
all_stay (x ∷ kept) = ap (λ rest. x ∷ rest) (all_stay kept)

-- all but the thing at K + 1 where K is kept, and all where it isn't
stay_where : {A : Type 0} (kind : Kind A) (k : ℕ) (here : Bool) (kept : List A)
    → filter (λ x. not (here && eqb (kind.place x) (k + 1))) kept
    ≡ cond here (filter (λ x. not (eqb (kind.place x) (k + 1))) kept) kept
stay_where kind k true kept = refl
stay_where kind k false kept = all_stay kept

pub stay_by_cases : {A : Type 0} (kind : Kind A) (k : ℕ) (kept : List A)
    → filter (stays_after_delete kind k kept) kept
    ≡ cond (is_kept kind k kept) (filter (λ x. not (eqb (kind.place x) (k + 1))) kept) kept
stay_by_cases kind k kept = stay_where kind k (is_kept kind k kept) kept

-- ---- one place, and a list of them

neither : (a b : Bool) → false ≡ ((a && false) || (b && false))
neither true true = refl
neither true false = refl
neither false true = refl
neither false false = refl

regroup : (a b x y xs ys : Bool)
    → (((a && x) || (b && y)) || ((a && xs) || (b && ys))) ≡ ((a && (x || xs)) || (b && (y || ys)))
regroup false false x y xs ys = refl
regroup false true x y xs ys = refl
regroup true false true y xs ys = refl
regroup true false false y xs ys = refl
regroup true true true y xs ys = refl
regroup true true false true true ys = refl
regroup true true false true false ys = refl
regroup true true false false xs ys = refl

-- where an insert puts a place, and where a delete does
raised_is : (k p x : ℕ)
    → eqb (place_after_insert k x) p ≡ ((leb p k && eqb x p) || (ltb k (p - 1) && eqb x (p - 1)))
raised_is k p x = grind (arith, nat_tests)

lowered_is : (k p x : ℕ)
    → eqb (place_after_delete k x) p ≡ ((leb p k && eqb x p) || (ltb k (p + 1) && eqb x (p + 1)))
lowered_is k p x = grind (arith, nat_tests)

-- the same without a thing at K + 1
left_is : (k p x : ℕ) → (not (eqb x (k + 1)) && eqb (place_after_delete k x) p)
    ≡ ((leb p k && eqb x p) || (ltb k p && eqb x (p + 1)))
left_is k p x = grind (arith, nat_tests)

all_raised : (k p : ℕ) (places : List ℕ) → is_kept places_alone p (map (place_after_insert k) places)
    ≡ ((leb p k && is_kept places_alone p places) || (ltb k (p - 1) && is_kept places_alone (p - 1) places))
all_raised k p [] = neither (leb p k) (ltb k (p - 1))
all_raised k p (x ∷ places) = (λ i. raised_is k p x i || all_raised k p places i)
    ∙ regroup (leb p k) (ltb k (p - 1)) (eqb x p) (eqb x (p - 1)) (is_kept places_alone p places)
    (is_kept places_alone (p - 1) places)

all_lowered : (k p : ℕ) (places : List ℕ) → is_kept places_alone p (map (place_after_delete k) places)
    ≡ ((leb p k && is_kept places_alone p places) || (ltb k (p + 1) && is_kept places_alone (p + 1) places))
all_lowered k p [] = neither (leb p k) (ltb k (p + 1))
all_lowered k p (x ∷ places) = (λ i. lowered_is k p x i || all_lowered k p places i)
    ∙ regroup (leb p k) (ltb k (p + 1)) (eqb x p) (eqb x (p + 1)) (is_kept places_alone p places)
    (is_kept places_alone (p + 1) places)

abbrev left : ℕ → List ℕ → List ℕ
left k places = filter (λ x. not (eqb x (k + 1))) places

one_left : (b : Bool) (k p x : ℕ) (rest : List ℕ)
    → is_kept places_alone p (map (place_after_delete k) (cond b (x ∷ rest) rest))
    ≡ ((b && eqb (place_after_delete k x) p) || is_kept places_alone p (map (place_after_delete k) rest))
one_left true k p x rest = refl
one_left false k p x rest = refl

all_left : (k p : ℕ) (places : List ℕ) → is_kept places_alone p (map (place_after_delete k) (left k places))
    ≡ ((leb p k && is_kept places_alone p places) || (ltb k p && is_kept places_alone (p + 1) places))
all_left k p [] = neither (leb p k) (ltb k p)
all_left k p (x ∷ places) = one_left (not (eqb x (k + 1))) k p x (left k places)
    ∙ (λ i. left_is k p x i || all_left k p places i)
    ∙ regroup (leb p k) (ltb k p) (eqb x p) (eqb x (p + 1)) (is_kept places_alone p places)
    (is_kept places_alone (p + 1) places)

-- where K is kept it still is, whether K + 1 was or not
here_anyway : (k p : ℕ) (places : List ℕ) → is_kept places_alone k places ≡ true
    → ((leb p k && is_kept places_alone p places) || (ltb k p && is_kept places_alone (p + 1) places))
    ≡ ((leb p k && is_kept places_alone p places) || (ltb k (p + 1) && is_kept places_alone (p + 1) places))
here_anyway k p places here = elim (cases_eq p k) [
  | inl same ↦ subst (λ q. ((leb q k && is_kept places_alone q places)
      || (ltb k q && is_kept places_alone (q + 1) places))
      ≡ ((leb q k && is_kept places_alone q places)
      || (ltb k (q + 1) && is_kept places_alone (q + 1) places))) (sym same)
      (rw (le-leb k k (omega arith), here) refl)
  | inr other ↦
      let above : ltb k p ≡ ltb k (p + 1) = grind (arith, nat_tests) in
      ap (λ t. (leb p k && is_kept places_alone p places) || (t && is_kept places_alone (p + 1) places)) above
]

deleted_by_cases : (here : Bool) (k p : ℕ) (places : List ℕ) → is_kept places_alone k places ≡ here
    → is_kept places_alone p (map (place_after_delete k) (cond here (left k places) places))
    ≡ ((leb p k && is_kept places_alone p places) || (ltb k (p + 1) && is_kept places_alone (p + 1) places))
deleted_by_cases true k p places here = all_left k p places ∙ here_anyway k p places here
deleted_by_cases false k p places none = all_lowered k p places

pub places_after_edits : PlacesAfterEdits
places_after_edits k p places = (
  ap (is_kept places_alone p) (unlink_nothing k places),
  ap (λ xs. is_kept places_alone p (map (place_after_insert k) xs)) (unlink_nothing k places)
      ∙ all_raised k p places,
  ap (λ xs. is_kept places_alone p (map (place_after_delete k) xs))
      (unlink_nothing k (filter (stays_after_delete places_alone k places) places)
      ∙ stay_by_cases places_alone k places)
      ∙ deleted_by_cases (is_kept places_alone k places) k p places refl,
)
