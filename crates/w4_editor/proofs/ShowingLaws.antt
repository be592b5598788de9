-- A showing keeps a kept list consistent, and what it shows is the state of a run from reset.
use Rattle.std.proofs.Common.{◌≡◌, ℕ, zero, suc, ◌+◌, ◌-◌, ◌<◌, ◌≤◌, Bool, true, false, cond, not, ltb, List}
use Rattle.std.proofs.Common.{[], ◌∷◌, length, get_or, Some, refl, sym, ap, ◌∙◌, subst, arith, inl, inr}
use Rattle.std.specs.List.{position_or_len}
use Rattle.std.proofs.lemmas.Bool.{cases_lt, lt-ltb, le-ltb}
use Rattle.w4_defs.specs.declared.console.Input.{Input}
use Rattle.w4_defs.specs.State.{State, HasGlobals}
use Rattle.w4_defs.specs.Reset.{Setup}
use Rattle.w4_defs.specs.Run.{run_state}
use Rattle.w4_defs.specs.KeptList.{Entry, nowhere, kept_entry_at, place_at, state_at, linked_at, first_above}
use Rattle.w4_defs.specs.KeptList.{HasTrueLinks}
use Rattle.w4_defs.specs.KeptList.{last_up_to, computed, relinked_at, replaced_at, IsConsistent, SamePlaces}
use Rattle.w4_defs.proofs.KeptListLaws.{linked_is_run}
use Rattle.w4_editor.specs.Showing.{ShowsFrom}
use Rattle.w4_editor.specs.Settling.{StaysConsistent}
use Rattle.w4_editor.proofs.SettlingLaws.{Progress, IsTrueChange, true_change, changed_true, first_keeps}
use Rattle.w4_editor.proofs.SettlingLaws.{relinked_computed, replaced_change}
use Rattle.w4_editor.proofs.KeptListLaws.{position_or_len_le}
use Rattle.w4_editor.proofs.PlayerLaws.{run_links}

pub consistent_after : (setup : Setup) (disk : List ℕ) (inputs : List Input) (old new : List Entry)
    → IsConsistent setup disk inputs old → HasTrueLinks setup inputs new → SamePlaces old new
    → kept_entry_at new 0 ≡ kept_entry_at old 0 → IsConsistent setup disk inputs new
consistent_after setup disk inputs old new is t same first =
    let long = same.many in
    let some = is.some in
    let few = is.few in record {
      some = omega (arith, long, some);
      few = omega (arith, long, few);
      first_place = ap (λ (x : Entry). x.place) first ∙ is.first_place;
      first_state = is.first_state ∙ ap (λ (x : Entry). Some x.state) (sym first);
      first_linked = ap (λ (x : Entry). x.linked) first ∙ is.first_linked;
      true_links = t;
    }

pub progress_consistent : (setup : Setup) (inputs : List Input) (last : ℕ) (old now : List Entry)
    (i from steps : ℕ)
    → Progress setup inputs last old now i from steps → StaysConsistent setup inputs old now
progress_consistent setup inputs last old now i from steps p disk is =
    consistent_after setup disk inputs old now is p.true_now p.settled.same p.first

-- ---- one entry of 1 or more is linked, or gets another state

change_consistent : (setup : Setup) (disk : List ℕ) (inputs : List Input) (i : ℕ) (old new : List Entry)
    → IsTrueChange setup inputs i old new → i + 1 < length old → IsConsistent setup disk inputs old
    → IsConsistent setup disk inputs new
change_consistent setup disk inputs i old new c lt is =
    consistent_after setup disk inputs old new is
    (changed_true setup inputs i old new c lt is.true_links) c.places
    (first_keeps setup inputs i old new c lt is.true_links)

module _ (setup : Setup) (disk : List ℕ) (inputs : List Input) (kept : List Entry) (i : ℕ) (some : 1 ≤ i)
    (there : i < length kept)
    (is : IsConsistent setup disk inputs kept) where
  back : i - 1 + 1 ≡ i
  back = omega (arith, some)

  before : i - 1 + 1 < length kept
  before = omega (arith, some, there)

  pub link_consistent : computed setup inputs kept (i - 1) ≡ Some (state_at kept i)
      → IsConsistent setup disk inputs (relinked_at i kept)
  link_consistent state = subst (λ k. IsConsistent setup disk inputs (relinked_at k kept)) back
      (change_consistent setup disk inputs (i - 1) kept (relinked_at (i - 1 + 1) kept)
      (true_change setup inputs (i - 1) kept (relinked_at (i - 1 + 1) kept)
      (relinked_computed setup inputs (i - 1) kept before
      (state ∙ ap (λ k. Some (state_at kept k)) (sym back))
      (is.true_links.globals (i - 1 + 1) before))) before is)

  pub replace_consistent : (state : State) → computed setup inputs kept (i - 1) ≡ Some state
      → HasGlobals setup.cart state
      → IsConsistent setup disk inputs (replaced_at i state kept)
  replace_consistent state computes globals = subst
      (λ k. IsConsistent setup disk inputs (replaced_at k state kept)) back
      (change_consistent setup disk inputs (i - 1) kept (replaced_at (i - 1 + 1) state kept)
      (replaced_change setup inputs (i - 1) kept state before computes globals) before is)

-- the last entry up to a place stands at it or below
below_step : {A : Type 0} (test : A → Bool) (x : A) (xs : List A) (d : A) (b : Bool) → test x ≡ b
    → ((k : ℕ) → k < position_or_len test xs → test (get_or xs k d) ≡ false)
    → (k : ℕ) → k < cond (not b) (1 + position_or_len test xs) 0 → test (get_or (x ∷ xs) k d) ≡ false
below_step test x xs d true e rest k lt = absurd (omega (arith, lt))
below_step test x xs d false e rest zero lt = e
below_step test x xs d false e rest (suc k) lt = rest k (omega (arith, lt))

below_first : {A : Type 0} (test : A → Bool) (xs : List A) (d : A) (k : ℕ) → k < position_or_len test xs
    → test (get_or xs k d) ≡ false
below_first test [] d k lt = absurd (omega (arith, lt))
below_first test (x ∷ xs) d k lt = below_step test x xs d (test x) refl (below_first test xs d) k lt

pub last_within : (p : ℕ) (kept : List Entry) → 0 < length kept → last_up_to p kept < length kept
last_within p kept some =
    let le = position_or_len_le (λ (x : Entry). ltb p x.place) kept in
    omega (arith, le, some)

pub last_below : (p : ℕ) (kept : List Entry) → place_at kept 0 ≡ 0 → place_at kept (last_up_to p kept) ≤ p
last_below p kept begin = elim (cases_lt 0 (first_above p kept)) [
  | inl some ↦
      let lt : last_up_to p kept < first_above p kept = omega (arith, some) in
      let off : ltb p (place_at kept (last_up_to p kept)) ≡ false =
      below_first (λ (x : Entry). ltb p x.place) kept nowhere (last_up_to p kept) lt in
      elim (cases_lt p (place_at kept (last_up_to p kept))) [
        | inl above ↦ absurd (let on = lt-ltb p (place_at kept (last_up_to p kept)) above in
            let e : false ≡ true = sym off ∙ on in cc)
        | inr le ↦ le
      ]
  | inr none ↦
      let zero_is : last_up_to p kept ≡ 0 = omega (arith, none) in
      let at : place_at kept (last_up_to p kept) ≡ 0 = ap (place_at kept) zero_is ∙ begin in
      omega (arith, at)
]

-- the first entry above a place is above it
first_step : {A : Type 0} (test : A → Bool) (x : A) (xs : List A) (d : A) (b : Bool) → test x ≡ b
    → (position_or_len test xs < length xs → test (get_or xs (position_or_len test xs) d) ≡ true)
    → cond (not b) (1 + position_or_len test xs) 0 < length (x ∷ xs)
    → test (get_or (x ∷ xs) (cond (not b) (1 + position_or_len test xs) 0) d) ≡ true
first_step test x xs d true e rest lt = e
first_step test x xs d false e rest lt =
    let next : suc (position_or_len test xs) ≡ 1 + position_or_len test xs = omega arith in
    subst (λ n. test (get_or (x ∷ xs) n d) ≡ true) next (rest (omega (arith, lt)))

at_first : {A : Type 0} (test : A → Bool) (xs : List A) (d : A) → position_or_len test xs < length xs
    → test (get_or xs (position_or_len test xs) d) ≡ true
at_first test [] d lt = absurd (omega (arith, lt))
at_first test (x ∷ xs) d lt = first_step test x xs d (test x) refl (at_first test xs d) lt

-- places rise from entry to entry
rises : (kept : List Entry) → ((i : ℕ) → i + 1 < length kept → place_at kept i < place_at kept (i + 1))
    → (n i j : ℕ) → j ≡ i + n → j < length kept → place_at kept i ≤ place_at kept j
rises kept rising zero i j e lt =
    let same : i ≡ j = omega (arith, e) in
    let at = ap (place_at kept) same in
    omega (arith, at)
rises kept rising (suc n) i j e lt =
    let next : j ≡ i + n + 1 = omega (arith, e) in
    let before = rises kept rising n i (i + n) refl (omega (arith, next, lt)) in
    let up = rising (i + n) (omega (arith, next, lt)) in
    let at = ap (place_at kept) next in
    omega (arith, before, up, at)

pub up_to_last : (p : ℕ) (kept : List Entry)
    → ((i : ℕ) → i + 1 < length kept → place_at kept i < place_at kept (i + 1))
    → (i : ℕ) → i < length kept → place_at kept i ≤ p → i ≤ last_up_to p kept
up_to_last p kept rising i lt le = elim (cases_lt i (first_above p kept)) [
  | inl before ↦ omega (arith, before)
  | inr past ↦
      let there : first_above p kept < length kept = omega (arith, past, lt) in
      let on : ltb p (place_at kept (first_above p kept)) ≡ true =
      at_first (λ (x : Entry). ltb p x.place) kept nowhere there in
      let below =
      rises kept rising (i - first_above p kept) (first_above p kept) i (omega (arith, past)) lt in
      elim (cases_lt p (place_at kept (first_above p kept))) [
        | inl above ↦ absurd (omega (arith, above, below, le))
        | inr low ↦ absurd (let off = le-ltb p (place_at kept (first_above p kept)) low in
            let e : false ≡ true = sym off ∙ on in cc)
      ]
]

pub run_shown : (setup : Setup) (disk : List ℕ) (inputs : List Input) (kept : List Entry) (i p : ℕ)
    (state : State)
    → IsConsistent setup disk inputs kept → i < length kept → ((j : ℕ) → j ≤ i → linked_at kept j ≡ true)
    → place_at kept i ≤ p → ShowsFrom setup inputs kept i p state → run_state setup disk inputs p ≡ Some state
run_shown setup disk inputs kept i p state is lt linked le shows =
    run_links setup disk inputs (place_at kept i) p (state_at kept i) state le
    (linked_is_run setup disk inputs kept i is lt linked) shows
