-- Memory search (project rule, as the cheat finders of emulators do it): from how a value has changed, the
-- addresses of the page at which it may stand. A search begins with all addresses, and each narrowing keeps
-- those at which a test holds between a new page and the last one.
use Rattle.std.specs.Prelude.{◌≡◌, ℕ, ◌-◌, ◌==◌, not, nat_lt, ◌&&◌, Bool, true, List, [], ◌∷◌, filter, fold, refl}
use Rattle.std.specs.List.{range_with_len}
use Rattle.std.specs.List.Sorted.{IsStrictlyIncreasing}
use Rattle.w4_defs.specs.declared.inspect.Test.{Test}
use Rattle.w4_defs.specs.declared.inspect.Test.TheVariants.{Is, Same, Changed, More, Less}
use Rattle.w4_defs.specs.Bytes.{number_at}

-- all addresses at which so many bytes lie in the page, rising
abbrev pub addresses : ℕ → List ℕ
addresses width = range_with_len 0 (65537 - width)

-- whether a test holds between the new value and the old one
abbrev pub test_holds : Test → ℕ → ℕ → Bool
test_holds (Is value) new old = new == value
test_holds Same new old = new == old
test_holds Changed new old = not (new == old)
test_holds More new old = nat_lt old new
test_holds Less new old = nat_lt new old

-- whether it holds at an address, between a new page and the last one
abbrev pub test_holds_at : ℕ → Test → List ℕ → List ℕ → ℕ → Bool
test_holds_at width test new last address = test_holds test (number_at new address width)
    (number_at last address width)

-- a search: how many bytes a value has, the last page, and the addresses that are left, rising
pub record Search : Type 0 where
  pub width : ℕ
  pub page : List ℕ
  pub candidates : List ℕ

unfoldable pub begin : ℕ → List ℕ → Search
begin width page = record { width = width; page = page; candidates = addresses width }

-- a later page, and the test between it and the page before
abbrev pub Step : Type 0
Step = List ℕ × Test

abbrev pub narrow : Search → Step → Search
narrow search step = record search {
  page = step.0;
  candidates = filter (test_holds_at search.width step.1 step.0 search.page) search.candidates;
}

-- whether each test holds at an address between its page and the one before it, the first page being this
abbrev pub holds_throughout : ℕ → List ℕ → List Step → ℕ → Bool
holds_throughout width page [] address = true
holds_throughout width page (step ∷ steps) address =
    test_holds_at width step.1 step.0 page address && holds_throughout width step.0 steps address

-- the addresses at which all tests hold, rising
abbrev pub remaining : ℕ → List ℕ → List Step → List ℕ
remaining width page steps = filter (holds_throughout width page steps) (addresses width)

-- what a search has left, however it was narrowed
abbrev pub RemainingIsNarrowed : Type 0
RemainingIsNarrowed = (width : ℕ) (page : List ℕ) (steps : List Step) →
    (fold narrow (begin width page) steps).candidates ≡ remaining width page steps

-- the addresses that are left rise
abbrev pub RemainingRises : Type 0
RemainingRises =
    (width : ℕ) (page : List ℕ) (steps : List Step) → IsStrictlyIncreasing (remaining width page steps)

-- Worked cases, over four bytes of a page: 5, 9, 200, 7, and then 6, 9, 100, 7. The byte that rose, those
-- that stayed, the one that is 100, and numbers of two bytes that fell. A value of 65,535 bytes has two
-- addresses.
abbrev pub kept_by : ℕ → Test → List ℕ → List ℕ
kept_by width test candidates =
    (narrow (record { width = width; page = 5 ∷ 9 ∷ 200 ∷ 7 ∷ []; candidates = candidates })
    (6 ∷ 9 ∷ 100 ∷ 7 ∷ [], test)).candidates

abbrev pub SearchCases : Type 0
SearchCases =
    (number_at (5 ∷ 9 ∷ 200 ∷ 7 ∷ []) 1 2 ≡ 51209)
    × (kept_by 1 More (0 ∷ 1 ∷ 2 ∷ 3 ∷ []) ≡ 0 ∷ [])
    × (kept_by 1 Same (0 ∷ 1 ∷ 2 ∷ 3 ∷ []) ≡ 1 ∷ 3 ∷ [])
    × (kept_by 1 Changed (0 ∷ 1 ∷ 2 ∷ 3 ∷ []) ≡ 0 ∷ 2 ∷ [])
    × (kept_by 1 (Is 100) (0 ∷ 1 ∷ 2 ∷ 3 ∷ []) ≡ 2 ∷ [])
    × (kept_by 2 Less (0 ∷ 1 ∷ 2 ∷ []) ≡ 1 ∷ 2 ∷ [])
    × (addresses 65535 ≡ 0 ∷ 1 ∷ [])

pub search-cases : SearchCases
search-cases = (refl, refl, refl, refl, refl, refl, refl)
