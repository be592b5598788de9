-- An edit of a consistent kept list leaves a consistent one: below the edited input nothing changes, the link
-- across it goes, and above it entries and inputs move alike.
use Rattle.std.proofs.Common.{◌≡◌, ◌≢◌, ℕ, suc, ◌+◌, ◌-◌, ◌<◌, ◌≤◌, Bool, true, false, cond, not, ltb, eqb}
use Rattle.std.proofs.Common.{List, [], ◌∷◌, map, length, set, ◌⊎◌, inl, inr, refl, sym, ap, ◌∙◌, subst}
use Rattle.std.proofs.Common.{arith, length-set}
use Rattle.std.specs.List.{All, slice_range, insert, remove, filter}
use Rattle.std.proofs.lemmas.Bool.{cases_lt, cases_eq, lt-ltb, le-ltb, eq-eqb, ne_eqb, eqb-false, or_parts}
use Rattle.std.proofs.lemmas.List.{map-id}
use Rattle.std.proofs.lemmas.List.Elements.{All-cons, All-head, All-tail}
use Rattle.std.proofs.lemmas.List.Edits.{length-insert, length-remove}
use Rattle.w4_defs.specs.declared.console.Input.{Input}
use Rattle.w4_defs.specs.State.{State}
use Rattle.w4_defs.specs.Reset.{Setup}
use Rattle.w4_defs.specs.Run.{fold}
use Rattle.w4_defs.specs.Session.{is_kept, unlink_above, moved_up, moved_down, stays_after_delete}
use Rattle.w4_defs.specs.Session.{kept_after_set}
use Rattle.w4_defs.specs.Session.{kept_after_insert, kept_after_delete}
use Rattle.w4_defs.specs.KeptList.{Entry, kept_entries, IsConsistent}
use Rattle.w4_defs.proofs.EditedPlaces.{stay_by_cases}
use Rattle.w4_editor.proofs.SliceLaws.{before_set, after_set, before_insert, after_insert, before_remove}
use Rattle.w4_editor.proofs.SliceLaws.{after_remove}
use Rattle.w4_editor.proofs.ChainLaws.{any, beside, Chain, FromReset, from_reset, consistent_from}

not_true : {A : Type 0} → false ≡ true → A
not_true e = absurd cc

-- places one after another, of which a place and the next are as this says
abbrev Neighbours : (ℕ → ℕ → Type 0) → ℕ → List Entry → Type 0
Neighbours are from [] = Unit {0}
Neighbours are from (x ∷ kept) = are from x.place × Neighbours are x.place kept

any_neighbours : (from : ℕ) (kept : List Entry) → Neighbours any from kept
any_neighbours from [] = tt
any_neighbours from (x ∷ kept) = (tt, any_neighbours x.place kept)

-- fewer links are owed
owed_beside : (k : ℕ) (setup : Setup) (inputs : List Input) (from : ℕ) (state : State) (kept : List Entry)
    → Chain any setup inputs from state kept → Chain (beside k) setup inputs from state kept
owed_beside k setup inputs from state [] c = tt
owed_beside k setup inputs from state (x ∷ kept) c =
    (c.0, c.1, c.2, λ _. c.3 tt, owed_beside k setup inputs x.place x.state kept c.4)

abbrev at_place : ℕ → Entry → Entry
at_place p x = record { place = p; state = x.state; linked = x.linked }

-- what an edit of input k does to inputs and places
record Moves (k : ℕ) (are : ℕ → ℕ → Type 0) (old new : List Input) (moved : ℕ → ℕ)
    (move : Entry → Entry) : Type 0 where
  low : (p q : ℕ) → q ≤ k → slice_range new p q ≡ slice_range old p q
  high : (p q : ℕ) → k < p → p < q → slice_range new (moved p) (moved q) ≡ slice_range old p q
  across : (p q : ℕ) → p ≤ k → k < q → are p q → p < moved q
  rise : (p q : ℕ) → k < p → p < q → moved p < moved q
  low_within : (q : ℕ) → q ≤ k → q ≤ length old → q ≤ length new
  high_within : (q : ℕ) → k < q → q ≤ length old → moved q ≤ length new
  stays : (x : Entry) → x.place ≤ k → move x ≡ x
  moves : (x : Entry) → k < x.place → move x ≡ at_place (moved x.place) x

module _ (k : ℕ) (are : ℕ → ℕ → Type 0) (setup : Setup) (old new : List Input) (moved : ℕ → ℕ)
    (move : Entry → Entry)
    (m : Moves k are old new moved move) where
  above : (from : ℕ) (state : State) (kept : List Entry) → k < from
      → Chain (beside k) setup old from state kept
      → Chain any setup new (moved from) state (map move kept)
  above from state [] h c = tt
  above from state (x ∷ kept) h c =
      let rises = c.0 in
      let past : k < x.place = omega (arith, rises) in
      let goal : Entry → Type 0 = λ y. Chain any setup new (moved from) state (y ∷ map move kept) in
      subst goal (sym (m.moves x past)) (
        m.rise from x.place h c.0,
        m.high_within x.place past c.1,
        c.2,
        λ _ l. ap (fold setup state) (m.high from x.place h c.0) ∙ c.3 (inr h) l,
        above x.place x.state kept past c.4,
      )

  edited_chain : (from : ℕ) (state : State) (kept : List Entry) → from ≤ k → Neighbours are from kept
      → Chain (beside k) setup old from state kept
      → Chain any setup new from state (map move (unlink_above kept_entries k kept))
  edited_chain from state [] h near c = tt
  edited_chain from state (x ∷ kept) h near c =
      let goal : Bool → Type 0 = λ t. Chain any setup new from state
      (map move (cond t (kept_entries.unlinked x ∷ kept) (x ∷ unlink_above kept_entries k kept))) in
      elim (cases_lt k x.place) [
        | inl past ↦ subst goal (sym (lt-ltb k x.place past))
            (subst (λ (y : Entry). Chain any setup new from state (y ∷ map move kept))
            (sym (m.moves (kept_entries.unlinked x) past)) (
              m.across from x.place h past near.0,
              m.high_within x.place past c.1,
              c.2,
              λ _ l. not_true l,
              above x.place x.state kept past c.4,
            ))
        | inr low ↦ subst goal (sym (le-ltb k x.place low))
            (subst (λ (y : Entry). Chain any setup new from state
            (y ∷ map move (unlink_above kept_entries k kept))) (sym (m.stays x low)) (
              c.0,
              m.low_within x.place low c.1,
              c.2,
              λ _ l. ap (fold setup state) (m.low from x.place low) ∙ c.3 (inl low) l,
              edited_chain x.place x.state kept low near.1 c.4,
            ))
      ]

-- unlinking moves no entry
pub below_unlinked : (k n : ℕ) (kept : List Entry) → All (λ (x : Entry). x.place < n) kept
    → All (λ (x : Entry). x.place < n) (unlink_above kept_entries k kept)
below_unlinked k n [] all = all
below_unlinked k n (x ∷ kept) all =
    let below : Entry → Type 0 = λ y. y.place < n in
    let first : x.place < n = All-head below x kept all in
    let rest = All-tail below x kept all in
    elim (ltb k x.place) as (λ t. All below (cond t (kept_entries.unlinked x ∷ kept)
    (x ∷ unlink_above kept_entries k kept))) [
      | true ↦ All-cons below (kept_entries.unlinked x) kept first rest
      | false ↦ All-cons below x (unlink_above kept_entries k kept) first (below_unlinked k n kept rest)
    ]

-- ---- set

set_moves : (inputs : List Input) (k : ℕ) (input : Input)
    → Moves k any inputs (set inputs k input) (λ p. p) (λ x. x)
set_moves inputs k input =
    let long = length-set inputs k input in record {
      low = λ p q le. before_set inputs k p q input le;
      high = λ p q lt _. after_set inputs k p q input lt;
      across = λ p q low past _. omega (arith, low, past);
      rise = λ p q _ lt. lt;
      low_within = λ q _ within. omega (arith, within, long);
      high_within = λ q _ within. omega (arith, within, long);
      stays = λ x _. refl;
      moves = λ x _. refl;
    }

-- a list whose first entry stands at place 0 keeps it
first_stays : (k : ℕ) (x : Entry) (kept : List Entry) → x.place ≡ 0
    → unlink_above kept_entries k (x ∷ kept) ≡ x ∷ unlink_above kept_entries k kept
first_stays k x kept at =
    ap (λ t. cond t (kept_entries.unlinked x ∷ kept) (x ∷ unlink_above kept_entries k kept))
    (le-ltb k x.place (omega (arith, at)))

length_unlinked : (k : ℕ) (kept : List Entry) → length (unlink_above kept_entries k kept) ≡ length kept
length_unlinked k [] = refl
length_unlinked k (x ∷ kept) = elim (ltb k x.place) as (λ t. length (cond t (kept_entries.unlinked x ∷ kept)
    (x ∷ unlink_above kept_entries k kept)) ≡ length (x ∷ kept)) [
      | true ↦ refl
      | false ↦ ap suc (length_unlinked k kept)
    ]

length_mapped : (move : Entry → Entry) (kept : List Entry) → length (map move kept) ≡ length kept
length_mapped move [] = refl
length_mapped move (x ∷ kept) = ap suc (length_mapped move kept)

-- all edits at once: the list before it may lack the link across the edited input
edited_from_reset : (k : ℕ) (are : ℕ → ℕ → Type 0) (setup : Setup) (disk : List ℕ) (old new : List Input)
    (moved : ℕ → ℕ) (move : Entry → Entry) → Moves k are old new moved move
    → (x : Entry) (before kept : List Entry) → FromReset setup disk old x before → length kept ≤ length before
    → Neighbours are x.place kept → Chain (beside k) setup old x.place x.state kept
    → IsConsistent setup disk new (map move (unlink_above kept_entries k (x ∷ kept)))
edited_from_reset k are setup disk old new moved move m x before kept from fewer near c =
    let at = from.place in
    let few = from.few in
    let low : x.place ≤ k = omega (arith, at) in
    let long = length_unlinked k kept in
    let mapped = length_mapped move (unlink_above kept_entries k kept) in
    subst (IsConsistent setup disk new) (sym (ap (map move) (first_stays k x kept from.place)
    ∙ ap (λ y. y ∷ map move (unlink_above kept_entries k kept)) (m.stays x low)))
    (consistent_from setup disk new x (map move (unlink_above kept_entries k kept)) (record {
      place = from.place;
      state = from.state;
      linked = from.linked;
      globals = from.globals;
      few = omega (arith, few, fewer, long, mapped);
      chain = edited_chain k are setup old new moved move m x.place x.state kept low near c;
    }))

no_list : {A : Type 0} (setup : Setup) (disk : List ℕ) (inputs : List Input)
    → IsConsistent setup disk inputs [] → A
no_list setup disk inputs is = absurd (let some = is.some in omega (arith, some))

pub set_consistent : (setup : Setup) (disk : List ℕ) (inputs : List Input) (kept : List Entry) (k : ℕ)
    (input : Input)
    → IsConsistent setup disk inputs kept
    → IsConsistent setup disk (set inputs k input) (kept_after_set kept_entries k kept)
set_consistent setup disk inputs [] k input is = no_list setup disk inputs is
set_consistent setup disk inputs (x ∷ kept) k input is =
    let from = from_reset setup disk inputs x kept is in
    subst (IsConsistent setup disk (set inputs k input)) (map-id (unlink_above kept_entries k (x ∷ kept)))
    (edited_from_reset k any setup disk inputs (set inputs k input) (λ p. p) (λ y. y)
    (set_moves inputs k input) x kept kept
    from (omega arith) (any_neighbours x.place kept)
    (owed_beside k setup inputs x.place x.state kept from.chain))

-- ---- insert

up_stays : (k : ℕ) (x : Entry) → x.place ≤ k → moved_up kept_entries k x ≡ x
up_stays k x low = ap (λ t. at_place (cond t (x.place + 1) x.place) x) (le-ltb k x.place low)

up_moves : (k : ℕ) (x : Entry) → k < x.place → moved_up kept_entries k x ≡ at_place (x.place + 1) x
up_moves k x past = ap (λ t. at_place (cond t (x.place + 1) x.place) x) (lt-ltb k x.place past)

insert_moves : (inputs : List Input) (k : ℕ) (input : Input) → k ≤ length inputs
    → Moves k any inputs (insert inputs k input) (λ p. p + 1) (moved_up kept_entries k)
insert_moves inputs k input within =
    let long = length-insert inputs k input within in record {
      low = λ p q le. before_insert inputs k p q input within le;
      high = λ p q lt _. after_insert inputs k p q input within lt;
      across = λ p q low past _. omega (arith, low, past);
      rise = λ p q _ lt. omega (arith, lt);
      low_within = λ q _ le. omega (arith, le, long);
      high_within = λ q _ le. omega (arith, le, long);
      stays = up_stays k;
      moves = up_moves k;
    }

pub insert_consistent : (setup : Setup) (disk : List ℕ) (inputs : List Input) (kept : List Entry) (k : ℕ)
    (input : Input)
    → k ≤ length inputs → IsConsistent setup disk inputs kept
    → IsConsistent setup disk (insert inputs k input) (kept_after_insert kept_entries k kept)
insert_consistent setup disk inputs [] k input within is = no_list setup disk inputs is
insert_consistent setup disk inputs (x ∷ kept) k input within is =
    let from = from_reset setup disk inputs x kept is in
    edited_from_reset k any setup disk inputs (insert inputs k input) (λ p. p + 1) (moved_up kept_entries k)
    (insert_moves inputs k input within) x kept kept from (omega arith) (any_neighbours x.place kept)
    (owed_beside k setup inputs x.place x.state kept from.chain)

-- ---- delete

-- two places that would both stand on K
abbrev IsApart : ℕ → ℕ → ℕ → Type 0
IsApart k p q = p ≡ k → q ≢ k + 1

down_stays : (k : ℕ) (x : Entry) → x.place ≤ k → moved_down kept_entries k x ≡ x
down_stays k x low = ap (λ t. at_place (cond t (x.place - 1) x.place) x) (le-ltb k x.place low)

down_moves : (k : ℕ) (x : Entry) → k < x.place → moved_down kept_entries k x ≡ at_place (x.place - 1) x
down_moves k x past = ap (λ t. at_place (cond t (x.place - 1) x.place) x) (lt-ltb k x.place past)

across_removed : (k p q : ℕ) → p ≤ k → k < q → IsApart k p q → p < q - 1
across_removed k p q low past other = elim (cases_eq p k) [
  | inl same ↦ elim (cases_eq q (k + 1)) [
    | inl double ↦ absurd (other same double)
    | inr more ↦ elim (cases_lt (k + 1) q) [
      | inl lt ↦ omega (arith, lt, same)
      | inr le ↦ absurd (more (omega (arith, le, past)))
    ]
  ]
  | inr below ↦ elim (cases_lt p k) [
    | inl lt ↦ omega (arith, lt, past)
    | inr le ↦ absurd (below (omega (arith, le, low)))
  ]
]

remove_moves : (inputs : List Input) (k : ℕ) → k < length inputs
    → Moves k (IsApart k) inputs (remove inputs k) (λ p. p - 1) (moved_down kept_entries k)
remove_moves inputs k within =
    let long = length-remove inputs k within in
    let le : k ≤ length inputs = omega (arith, within) in record {
      low = λ p q h. before_remove inputs k p q le h;
      high = λ p q lt rise. after_remove inputs k p q le lt (omega (arith, rise));
      across = across_removed k;
      rise = λ p q past lt. omega (arith, past, lt);
      low_within = λ q low _. omega (arith, low, long, within);
      high_within = λ q past h. omega (arith, past, h, long);
      stays = down_stays k;
      moves = down_moves k;
    }

-- a chain from another place and state across the edited input
restarted : (k : ℕ) (setup : Setup) (inputs : List Input) (from p : ℕ) (state other : State)
    (kept : List Entry)
    → from ≤ k → k < p → Chain (beside k) setup inputs p other kept
    → Chain (beside k) setup inputs from state kept
restarted k setup inputs from p state other [] low past c = tt
restarted k setup inputs from p state other (x ∷ kept) low past c =
    let rises = c.0 in (
      omega (arith, low, past, rises),
      c.1,
      c.2,
      λ owed l. elim owed [
        | inl le ↦ absurd (omega (arith, le, past, rises))
        | inr lt ↦ absurd (omega (arith, lt, low))
      ],
      c.4,
    )

abbrev not_next : ℕ → Entry → Bool
not_next k x = not (eqb x.place (k + 1))

dropped_double : (k : ℕ) (setup : Setup) (inputs : List Input) (from : ℕ) (state : State) (kept : List Entry)
    → Chain (beside k) setup inputs from state kept
    → Chain (beside k) setup inputs from state (filter (not_next k) kept)
dropped_double k setup inputs from state [] c = tt
dropped_double k setup inputs from state (x ∷ kept) c =
    let rest = dropped_double k setup inputs x.place x.state kept c.4 in
    let goal : Bool → Type 0 = λ t. Chain (beside k) setup inputs from state
    (cond (not t) (x ∷ filter (not_next k) kept) (filter (not_next k) kept)) in
    let rises = c.0 in
    elim (cases_eq x.place (k + 1)) [
      | inl same ↦ subst goal (sym (eq-eqb x.place (k + 1) same))
          (restarted k setup inputs from x.place state x.state (filter (not_next k) kept)
          (omega (arith, rises, same)) (omega (arith, same)) rest)
      | inr other ↦
          let whole : Chain (beside k) setup inputs from state (x ∷ filter (not_next k) kept) =
          (c.0, c.1, c.2, c.3, rest) in
          subst goal (sym (ne_eqb x.place (k + 1) other)) whole
    ]

-- without an entry at place K + 1, or without one at K, none would stand on K twice
none_next : (k from : ℕ) (kept : List Entry) → Neighbours (IsApart k) from (filter (not_next k) kept)
none_next k from [] = tt
none_next k from (x ∷ kept) = elim (cases_eq x.place (k + 1)) [
  | inl same ↦ subst (λ t. Neighbours (IsApart k) from (cond (not t) (x ∷ filter (not_next k) kept)
      (filter (not_next k) kept))) (sym (eq-eqb x.place (k + 1) same)) (none_next k from kept)
  | inr other ↦
      let whole : Neighbours (IsApart k) from (x ∷ filter (not_next k) kept) =
      (λ _. other, none_next k x.place kept) in
      subst (λ t. Neighbours (IsApart k) from (cond (not t) (x ∷ filter (not_next k) kept)
      (filter (not_next k) kept))) (sym (ne_eqb x.place (k + 1) other)) whole
]

none_here : (k from : ℕ) (kept : List Entry) → from ≢ k → is_kept kept_entries k kept ≡ false
    → Neighbours (IsApart k) from kept
none_here k from [] other none = tt
none_here k from (x ∷ kept) other none =
    let parts = or_parts (eqb x.place k) (is_kept kept_entries k kept) none in
    (λ same. absurd (other same), none_here k x.place kept (eqb-false x.place k parts.0) parts.1)

length_filtered : (k : ℕ) (kept : List Entry) → length (filter (not_next k) kept) ≤ length kept
length_filtered k [] = omega arith
length_filtered k (x ∷ kept) =
    let rest = length_filtered k kept in
    elim (not_next k x) as (λ t. length (cond t (x ∷ filter (not_next k) kept) (filter (not_next k) kept))
    ≤ length (x ∷ kept)) [
      | true ↦ omega (arith, rest)
      | false ↦ omega (arith, rest)
    ]

-- the first entry stays, and what is left after it
record Single (k : ℕ) (setup : Setup) (inputs : List Input) (x : Entry)
    (before kept : List Entry) : Type 0 where
  is : filter (stays_after_delete kept_entries k (x ∷ before)) (x ∷ before) ≡ x ∷ kept
  fewer : length kept ≤ length before
  near : Neighbours (IsApart k) x.place kept
  chain : Chain (beside k) setup inputs x.place x.state kept

true_or_false : (b : Bool) → (b ≡ true) ⊎ (b ≡ false)
true_or_false true = inl refl
true_or_false false = inr refl

single : (k : ℕ) (setup : Setup) (inputs : List Input) (x : Entry) (before : List Entry) → x.place ≡ 0
    → Chain (beside k) setup inputs x.place x.state before
    → (kept : List Entry) × Single k setup inputs x before kept
single k setup inputs x before at c = elim (true_or_false (is_kept kept_entries k (x ∷ before))) [
  | inl double ↦
      let other : x.place ≢ k + 1 = λ e. absurd (omega (arith, e, at)) in
      let first : eqb x.place (k + 1) ≡ false = ne_eqb x.place (k + 1) other in (
        filter (not_next k) before,
        record {
          is = stay_by_cases kept_entries k (x ∷ before)
              ∙ ap (λ t. cond t (filter (not_next k) (x ∷ before)) (x ∷ before)) double
              ∙ ap (λ t. cond (not t) (x ∷ filter (not_next k) before) (filter (not_next k) before)) first;
          fewer = length_filtered k before;
          near = none_next k x.place before;
          chain = dropped_double k setup inputs x.place x.state before c;
        },
      )
  | inr none ↦
      let parts = or_parts (eqb x.place k) (is_kept kept_entries k before) none in (
        before,
        record {
          is = stay_by_cases kept_entries k (x ∷ before)
              ∙ ap (λ t. cond t (filter (not_next k) (x ∷ before)) (x ∷ before)) none;
          fewer = omega arith;
          near = none_here k x.place before (eqb-false x.place k parts.0) parts.1;
          chain = c;
        },
      )
]

pub delete_consistent : (setup : Setup) (disk : List ℕ) (inputs : List Input) (kept : List Entry) (k : ℕ)
    → k < length inputs → IsConsistent setup disk inputs kept
    → IsConsistent setup disk (remove inputs k) (kept_after_delete kept_entries k kept)
delete_consistent setup disk inputs [] k within is = no_list setup disk inputs is
delete_consistent setup disk inputs (x ∷ before) k within is =
    let from = from_reset setup disk inputs x before is in
    let s = single k setup inputs x before from.place
    (owed_beside k setup inputs x.place x.state before from.chain) in
    let left : Single k setup inputs x before s.0 = s.1 in
    subst (λ (kept : List Entry). IsConsistent setup disk (remove inputs k)
    (map (moved_down kept_entries k) (unlink_above kept_entries k kept))) (sym left.is)
    (edited_from_reset k (IsApart k) setup disk inputs (remove inputs k) (λ p. p - 1)
    (moved_down kept_entries k)
    (remove_moves inputs k within) x before s.0 from left.fewer left.near left.chain)
