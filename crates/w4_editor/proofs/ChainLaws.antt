-- Kept lists entry by entry: a chain goes on from a place and its state. A kept list is consistent if and
-- only if its first entry is that of the reset and the others are a chain from it.
use Rattle.std.proofs.Common.{◌≡◌, ℕ, zero, suc, ◌+◌, ◌<◌, ◌≤◌, true, List, [], ◌∷◌, length, Some, option_map}
use Rattle.std.proofs.Common.{◌⊎◌, sym, subst, arith}
use Rattle.std.specs.List.{slice_range}
use Rattle.w4_defs.specs.declared.console.Input.{Input}
use Rattle.w4_defs.specs.State.{State, Moment, HasGlobals}
use Rattle.w4_defs.specs.Reset.{Setup, reset}
use Rattle.w4_defs.specs.Run.{fold}
use Rattle.w4_defs.specs.KeptList.{Entry, place_at, state_at, linked_at, IsConsistent, HasTrueLinks}

-- which links are owed, by the places before and after them: all, or all but the one across input K
abbrev pub any : ℕ → ℕ → Type 0
any p q = Unit {0}

abbrev pub beside : ℕ → ℕ → ℕ → Type 0
beside k p q = (q ≤ k) ⊎ (k < p)

abbrev pub Chain : (ℕ → ℕ → Type 0) → Setup → List Input → ℕ → State → List Entry → Type 0
Chain owed setup inputs from state [] = Unit {0}
Chain owed setup inputs from state (x ∷ kept) =
    (from < x.place) × (x.place ≤ length inputs) × HasGlobals setup.cart x.state
    × (owed from x.place → x.linked ≡ true
    → fold setup state (slice_range inputs from x.place) ≡ Some x.state)
    × Chain owed setup inputs x.place x.state kept

-- ---- by index and by recursion

next_index : (i : ℕ) → suc i + 1 ≡ suc (i + 1)
next_index i = omega arith

-- what the link of entry j says, from a place and its state on
abbrev LinkAt : Setup → List Input → ℕ → State → List Entry → ℕ → Type 0
LinkAt setup inputs from state kept j =
    linked_at kept j ≡ true
    → fold setup state (slice_range inputs from (place_at kept j)) ≡ Some (state_at kept j)

true_after : (setup : Setup) (inputs : List Input) (x : Entry) (kept : List Entry)
    → HasTrueLinks setup inputs (x ∷ kept)
    → HasTrueLinks setup inputs kept
true_after setup inputs x kept s = record {
  rising = λ i h.
      subst (λ j. place_at kept i < place_at (x ∷ kept) j) (next_index i) (s.rising (suc i) (omega arith));
  within = λ i h. s.within (suc i) (omega arith);
  globals = λ i h. s.globals (suc i) (omega arith);
  links = λ i h. subst (LinkAt setup inputs (place_at kept i) (state_at kept i) (x ∷ kept)) (next_index i)
      (s.links (suc i) (omega arith));
}

chain_of : (setup : Setup) (inputs : List Input) (x : Entry) (kept : List Entry)
    → HasTrueLinks setup inputs (x ∷ kept)
    → Chain any setup inputs x.place x.state kept
chain_of setup inputs x [] s = tt
chain_of setup inputs x (y ∷ kept) s = (
  s.rising 0 (omega arith),
  s.within 1 (omega arith),
  s.globals 1 (omega arith),
  λ _. s.links 0 (omega arith),
  chain_of setup inputs y kept (true_after setup inputs x (y ∷ kept) s),
)

module _ (setup : Setup) (inputs : List Input) (x : Entry) where
  rising_on : (kept : List Entry) → (0 < length kept → x.place < place_at kept 0)
      → ((i : ℕ) → i + 1 < length kept → place_at kept i < place_at kept (i + 1))
      → (i : ℕ) → i + 1 < length (x ∷ kept) → place_at (x ∷ kept) i < place_at (x ∷ kept) (i + 1)
  rising_on kept first rest zero h = first (omega arith)
  rising_on kept first rest (suc i) h =
      subst (λ j. place_at kept i < place_at (x ∷ kept) j) (sym (next_index i)) (rest i (omega arith))

  within_on : (kept : List Entry) → x.place ≤ length inputs
      → ((i : ℕ) → i < length kept → place_at kept i ≤ length inputs)
      → (i : ℕ) → i < length (x ∷ kept) → place_at (x ∷ kept) i ≤ length inputs
  within_on kept first rest zero h = first
  within_on kept first rest (suc i) h = rest i (omega arith)

  globals_on : (kept : List Entry) → HasGlobals setup.cart x.state
      → ((i : ℕ) → i < length kept → HasGlobals setup.cart (state_at kept i))
      → (i : ℕ) → i < length (x ∷ kept) → HasGlobals setup.cart (state_at (x ∷ kept) i)
  globals_on kept first rest zero h = first
  globals_on kept first rest (suc i) h = rest i (omega arith)

  links_on : (kept : List Entry) → (0 < length kept → LinkAt setup inputs x.place x.state kept 0)
      → ((i : ℕ) → i + 1 < length kept → LinkAt setup inputs (place_at kept i) (state_at kept i) kept (i + 1))
      → (i : ℕ) → i + 1 < length (x ∷ kept)
      → LinkAt setup inputs (place_at (x ∷ kept) i) (state_at (x ∷ kept) i) (x ∷ kept) (i + 1)
  links_on kept first rest zero h = first (omega arith)
  links_on kept first rest (suc i) h =
      subst (LinkAt setup inputs (place_at kept i) (state_at kept i) (x ∷ kept)) (sym (next_index i))
      (rest i (omega arith))

  true_on : (kept : List Entry) → x.place ≤ length inputs → HasGlobals setup.cart x.state
      → (0 < length kept → x.place < place_at kept 0)
      → (0 < length kept → LinkAt setup inputs x.place x.state kept 0) → HasTrueLinks setup inputs kept
      → HasTrueLinks setup inputs (x ∷ kept)
  true_on kept le globals first link s = record {
    rising = rising_on kept first s.rising;
    within = within_on kept le s.within;
    globals = globals_on kept globals s.globals;
    links = links_on kept link s.links;
  }

none_true : (setup : Setup) (inputs : List Input) → HasTrueLinks setup inputs []
none_true setup inputs = record {
  rising = λ i h. absurd (omega (arith, h));
  within = λ i h. absurd (omega (arith, h));
  globals = λ i h. absurd (omega (arith, h));
  links = λ i h l. absurd (omega (arith, h));
}

true_of : (setup : Setup) (inputs : List Input) (x : Entry) (kept : List Entry) → x.place ≤ length inputs
    → HasGlobals setup.cart x.state → Chain any setup inputs x.place x.state kept
    → HasTrueLinks setup inputs (x ∷ kept)
true_of setup inputs x [] le globals c = true_on setup inputs x [] le globals (λ h. absurd (omega (arith, h)))
    (λ h l. absurd (omega (arith, h))) (none_true setup inputs)
true_of setup inputs x (y ∷ kept) le globals c =
    true_on setup inputs x (y ∷ kept) le globals (λ h. c.0) (λ h. c.3 tt)
    (true_of setup inputs y kept c.1 c.2 c.4)

-- ---- consistent kept lists

-- an entry of the reset, and a chain of less than 1,024 from it
pub record FromReset (setup : Setup) (disk : List ℕ) (inputs : List Input) (x : Entry)
    (kept : List Entry) : Type 0 where
  pub place : x.place ≡ 0
  pub state : option_map (λ (moment : Moment). moment.state) (reset setup disk) ≡ Some x.state
  pub linked : x.linked ≡ true
  pub globals : HasGlobals setup.cart x.state
  pub few : length kept < 1024
  pub chain : Chain any setup inputs x.place x.state kept

pub from_reset : (setup : Setup) (disk : List ℕ) (inputs : List Input) (x : Entry) (kept : List Entry)
    → IsConsistent setup disk inputs (x ∷ kept) → FromReset setup disk inputs x kept
from_reset setup disk inputs x kept is = record {
  place = is.first_place;
  state = is.first_state;
  linked = is.first_linked;
  globals = is.true_links.globals 0 (omega arith);
  few = let few = is.few in omega (arith, few);
  chain = chain_of setup inputs x kept is.true_links;
}

pub consistent_from : (setup : Setup) (disk : List ℕ) (inputs : List Input) (x : Entry) (kept : List Entry)
    → FromReset setup disk inputs x kept → IsConsistent setup disk inputs (x ∷ kept)
consistent_from setup disk inputs x kept from = record {
  some = omega arith;
  few = let few = from.few in omega (arith, few);
  first_place = from.place;
  first_state = from.state;
  first_linked = from.linked;
  true_links = true_of setup inputs x kept (let at = from.place in omega (arith, at)) from.globals from.chain;
}
