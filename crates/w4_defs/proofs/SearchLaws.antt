-- What a search has left, however it was narrowed.
use Rattle.std.proofs.Common.{◌≡◌, ◌+◌, ◌-◌, ◌<◌, arith, refl, ℕ, Bool, true, false, cond, ◌&&◌, List, [], ◌∷◌, sym, ◌∙◌, ap}
use Rattle.std.specs.Prelude.{filter, fold}
use Rattle.std.specs.List.{range_with_len}
use Rattle.std.specs.List.Sorted.{IsStrictlyIncreasing}
use Rattle.std.proofs.lemmas.List.FromFn.{length-range_with_len, get_or-range_with_len}
use Rattle.std.proofs.lemmas.List.Kept.{IsStrictlyIncreasing-filter}
use Rattle.w4_defs.specs.Search.{Step, begin, narrow, addresses, holds_throughout, RemainingIsNarrowed, RemainingRises}

-- all pass where every one passes
filter_all : {X : Type 0} (xs : List X) → filter (λ x. true) xs ≡ xs
filter_all [] = refl
filter_all (x ∷ xs) = ap (λ rest. x ∷ rest) (filter_all xs)

-- what passes two tests, one after the other
filter_both_at : {X : Type 0} (first second : Bool) (x : X) (others both : List X) (q : X → Bool) →
    filter q others ≡ both → second ≡ q x →
    filter q (cond first (x ∷ others) others) ≡ cond (first && second) (x ∷ both) both
filter_both_at true second x others both q p s =
    ap (λ b. cond b (x ∷ filter q others) (filter q others)) (sym s) ∙ ap (λ ys. cond second (x ∷ ys) ys) p
filter_both_at false second x others both q p s = p

filter_both : {X : Type 0} (p q : X → Bool) (xs : List X) →
    filter q (filter p xs) ≡ filter (λ x. p x && q x) xs
filter_both p q [] = refl
filter_both p q (x ∷ xs) =
    filter_both_at (p x) (q x) x (filter p xs) (filter (λ y. p y && q y) xs) q (filter_both p q xs) refl

-- from any search on
narrowed_from : (width : ℕ) (page : List ℕ) (candidates : List ℕ) (steps : List Step) →
    (fold narrow (record { width = width; page = page; candidates = candidates }) steps).candidates
    ≡ filter (holds_throughout width page steps) candidates
narrowed_from width page candidates [] = sym (filter_all candidates)
narrowed_from width page candidates (step ∷ steps) =
    narrowed_from width step.0 _ steps ∙ filter_both _ (holds_throughout width step.0 steps) candidates

pub left_is_narrowed : RemainingIsNarrowed
unfolding begin
left_is_narrowed width page steps = narrowed_from width page (addresses width) steps

-- ---- in rising order

range_rises : (count : ℕ) → IsStrictlyIncreasing (range_with_len 0 count)
range_rises count k below =
    let within : k + 1 < count = omega (arith, below, length-range_with_len 0 count) in
    let here = get_or-range_with_len 0 count k 0 (omega (arith, within)) in
    omega (arith, here, get_or-range_with_len 0 count (k + 1) 0 within)

pub left_rises : RemainingRises
left_rises width page steps =
    IsStrictlyIncreasing-filter (holds_throughout width page steps) (addresses width)
    (range_rises (65537 - width))
