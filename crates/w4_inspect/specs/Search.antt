-- What a search holds of its addresses, and what it has left after any number of narrowings.
use Rattle.std.specs.Prelude.{ℕ, ◌+◌, ◌≤◌, List, ◌≡◌, map, fold, Option, Some, option_map, option_and_then}
use Rattle.std.specs.List.{All}
use Rattle.std.specs.Option.{ForSome}
use Rattle.std.specs.List.Sorted.{IsStrictlyIncreasing}
use Rattle.w4_defs.specs.declared.inspect.Test.{Test}
use Rattle.w4_defs.specs.AllThere.{all_some}
use Rattle.w4_defs.specs.Search.{Search, Step, begin, narrow, remaining}
use Rattle.w4_editor.specs.Editor.{Editing}
use Rattle.w4_inspect.specs.PlacePages.{page_at}

-- all bytes of a value at each of these addresses lie in the page
abbrev pub AreWithin : ℕ → List ℕ → Type 0
AreWithin width addresses = All (λ address. address + width ≤ 65536) addresses

-- a call of `narrow` that was accepted: the editor as it was then, the place and the test
pub record Narrowing : Type 0 where
  pub editor : Editing
  pub place : ℕ
  pub test : Test

abbrev pub search_step : Narrowing → Option Step
search_step narrowing = option_map (λ page. (page, narrowing.test)) (page_at narrowing.editor narrowing.place)

abbrev pub narrowed : Option Search → Narrowing → Option Search
narrowed search narrowing = option_and_then (λ s. option_map (narrow s) (search_step narrowing)) search

-- a search that began with this page, after these narrowings: what is left are the addresses at which each
-- test holds between its page and the one before it
abbrev pub FoundIsRemaining : Type 0
FoundIsRemaining = (width : ℕ) (page : List ℕ) (narrowings : List Narrowing) →
    option_map (λ (search : Search). search.candidates) (fold narrowed (Some (begin width page)) narrowings)
    ≡ option_map (remaining width page) (all_some (map search_step narrowings))

-- and they rise
abbrev pub FoundRises : Type 0
FoundRises = (width : ℕ) (page : List ℕ) (narrowings : List Narrowing) →
    ForSome (fold narrowed (Some (begin width page)) narrowings)
    (λ search. IsStrictlyIncreasing search.candidates)
