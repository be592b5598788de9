-- Addresses that are filtered in place, and what a search has left after any number of narrowings.
use Rattle.std.proofs.Common.{◌≡◌, ℕ, ◌+◌, ◌<◌, ◌≤◌, Bool, List, length, get_or, drop, ap, sym, ◌∙◌, subst}
use Rattle.std.proofs.Common.{add-zero, [], ◌∷◌, map, Option, Some, None, option_map, refl}
use Rattle.std.proofs.lemmas.List.{get_or-drop}
use Rattle.std.proofs.lemmas.List.Elements.{All-get_or}
use Rattle.std.proofs.lemmas.List.Filters.{FiltersInPlace}
use Rattle.w4_inspect.specs.Search.{AreWithin, Narrowing, search_step, narrowed, FoundIsRemaining, FoundRises}
use Rattle.std.specs.Prelude.{fold}
use Rattle.std.specs.List.Sorted.{IsStrictlyIncreasing}
use Rattle.w4_defs.specs.AllThere.{all_some}
use Rattle.w4_defs.specs.Search.{Search, Step, begin, narrow, remaining}
use Rattle.w4_defs.proofs.OptionLaws.{some_same}
use Rattle.w4_defs.proofs.SearchLaws.{left_is_narrowed, left_rises}

at_front : (i : ℕ) (xs : List ℕ) (d : ℕ) → get_or xs i d ≡ get_or (drop i xs) 0 d
at_front i xs d = sym (get_or-drop i xs 0 d ∙ ap (λ n. get_or xs n d) (add-zero i))

-- what is read next is as it was
pub next_is_old : {p : ℕ → Bool} {xs ys : List ℕ} {k i : ℕ} (d : ℕ) → FiltersInPlace p xs ys k i
    → get_or ys i d ≡ get_or xs i d
next_is_old {p} {xs} {ys} {k} {i} d filters =
    at_front i ys d ∙ ap (λ rest. get_or rest 0 d) filters.rest ∙ sym (at_front i xs d)

pub next_is_within : {p : ℕ → Bool} {xs ys : List ℕ} {k i : ℕ} (width d : ℕ) → FiltersInPlace p xs ys k i
    → i < length xs → AreWithin width xs → get_or ys i d + width ≤ 65536
next_is_within {p} {xs} {ys} {k} {i} width d filters there within =
    subst (λ address. address + width ≤ 65536) (sym (next_is_old d filters))
    (All-get_or (λ address. address + width ≤ 65536) xs i d there within)

nothing_left : (narrowings : List Narrowing) → fold narrowed None narrowings ≡ None
nothing_left [] = refl
nothing_left (narrowing ∷ narrowings) = nothing_left narrowings

-- narrowings are steps with the pages of these calls
abbrev stepped : Search → Option (List Step) → Option Search
stepped search steps = option_map (fold narrow search) steps

step_before : (search : Search) (step : Step) (steps : Option (List Step))
    → stepped (narrow search step) steps ≡ stepped search (option_map (λ more. step ∷ more) steps)
step_before search step None = refl
step_before search step (Some steps) = refl

one_step : (search : Search) (step : Option Step) (narrowings : List Narrowing)
    → ((next : Search) → fold narrowed (Some next) narrowings
    ≡ stepped next (all_some (map search_step narrowings)))
    → fold narrowed (option_map (narrow search) step) narrowings
    ≡ stepped search (all_some (step ∷ map search_step narrowings))
one_step search None narrowings rest = nothing_left narrowings
one_step search (Some step) narrowings rest =
    rest (narrow search step) ∙ step_before search step (all_some (map search_step narrowings))

narrowed_by_steps : (search : Search) (narrowings : List Narrowing)
    → fold narrowed (Some search) narrowings ≡ stepped search (all_some (map search_step narrowings))
narrowed_by_steps search [] = refl
narrowed_by_steps search (narrowing ∷ narrowings) =
    one_step search (search_step narrowing) narrowings (λ next. narrowed_by_steps next narrowings)

found_by_steps : (width : ℕ) (page : List ℕ) (steps : Option (List Step))
    → option_map (λ (search : Search). search.candidates) (stepped (begin width page) steps)
    ≡ option_map (remaining width page) steps
found_by_steps width page None = refl
found_by_steps width page (Some steps) = ap Some (left_is_narrowed width page steps)

pub found_is_remaining : FoundIsRemaining
found_is_remaining width page narrowings =
    ap (λ found. option_map (λ (search : Search). search.candidates) found)
    (narrowed_by_steps (begin width page) narrowings)
    ∙ found_by_steps width page (all_some (map search_step narrowings))

steps_rise : (width : ℕ) (page : List ℕ) (steps : Option (List Step)) (search : Search)
    → stepped (begin width page) steps ≡ Some search → IsStrictlyIncreasing search.candidates
steps_rise width page None search is = absurd cc
steps_rise width page (Some steps) search is =
    let found = ap (λ (s : Search). s.candidates)
    (some_same (fold narrow (begin width page) steps) search is) in
    subst IsStrictlyIncreasing (sym (left_is_narrowed width page steps) ∙ found) (left_rises width page steps)

pub found_rises : FoundRises
found_rises width page narrowings search is =
    steps_rise width page (all_some (map search_step narrowings)) search
    (sym (narrowed_by_steps (begin width page) narrowings) ∙ is)
