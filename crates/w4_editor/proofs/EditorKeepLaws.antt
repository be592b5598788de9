-- Consistent kept lists with one entry more or less.
use Rattle.std.proofs.Common.{◌≡◌, ◌≢◌, ℕ, suc, ◌+◌, ◌<◌, ◌≤◌, Bool, true, false, cond, ltb, eqb, List, []}
use Rattle.std.proofs.Common.{◌∷◌, length, Some, refl, sym, ap, ◌∙◌, ◌&&◌, subst, arith, inl, inr}
use Rattle.std.specs.Option.{option_and_then}
use Rattle.std.specs.List.{slice_range}
use Rattle.std.proofs.lemmas.Bool.{cases_lt, lt-ltb, le-ltb, ne_eqb, eqb-false, or_parts}
use Rattle.w4_defs.specs.declared.console.Input.{Input}
use Rattle.w4_defs.specs.State.{State, HasGlobals}
use Rattle.w4_defs.specs.Reset.{Setup}
use Rattle.w4_defs.specs.Run.{fold, run_state}
use Rattle.w4_defs.specs.Session.{is_kept, with_kept, next_after_drop, without}
use Rattle.w4_defs.specs.KeptList.{Entry, kept_entries, place_at, linked_at, IsConsistent}
use Rattle.w4_defs.proofs.RunLaws.{folds_in_parts}
use Rattle.w4_defs.proofs.KeptListLaws.{linked_is_run}
use Rattle.w4_editor.proofs.SliceLaws.{slice_in_parts}
use Rattle.w4_editor.proofs.ChainLaws.{any, Chain, from_reset, consistent_from}
use Rattle.w4_editor.proofs.PlayerLaws.{links_run, run_links}

-- ---- drop

both_linked : (b c : Bool) → (b && c) ≡ true → (b ≡ true) × (c ≡ true)
both_linked true c e = (refl, e)
both_linked false c e = absurd cc

joined : (setup : Setup) (inputs : List Input) (a b c : ℕ) (s t u : State) → a ≤ b → b ≤ c
    → fold setup s (slice_range inputs a b) ≡ Some t → fold setup t (slice_range inputs b c) ≡ Some u
    → fold setup s (slice_range inputs a c) ≡ Some u
joined setup inputs a b c s t u ab bc first next =
    ap (fold setup s) (slice_in_parts inputs a b c ab bc)
    ∙ folds_in_parts setup s (slice_range inputs a b) (slice_range inputs b c)
    ∙ ap (option_and_then (λ state. fold setup state (slice_range inputs b c))) first
    ∙ next

dropped_here : (setup : Setup) (inputs : List Input) (from : ℕ) (state : State) (x : Entry)
    (kept : List Entry)
    → Chain any setup inputs from state (x ∷ kept)
    → Chain any setup inputs from state (next_after_drop kept_entries x kept)
dropped_here setup inputs from state x [] c = tt
dropped_here setup inputs from state x (y ∷ kept) c =
    let first = c.0 in
    let next = c.4.0 in (
      omega (arith, first, next),
      c.4.1,
      c.4.2,
      λ _ l. let links = both_linked x.linked y.linked l in
          joined setup inputs from x.place y.place state x.state y.state (omega (arith, first))
          (omega (arith, next))
          (c.3 tt links.0) (c.4.3 tt links.1),
      c.4.4,
    )

dropped_chain : (p : ℕ) (setup : Setup) (inputs : List Input) (from : ℕ) (state : State) (kept : List Entry)
    → Chain any setup inputs from state kept → Chain any setup inputs from state (without kept_entries p kept)
dropped_chain p setup inputs from state [] c = tt
dropped_chain p setup inputs from state (x ∷ kept) c =
    elim (eqb x.place p) as (λ t. Chain any setup inputs from state
    (cond t (next_after_drop kept_entries x kept) (x ∷ without kept_entries p kept))) [
      | true ↦ dropped_here setup inputs from state x kept c
      | false ↦ (c.0, c.1, c.2, c.3, dropped_chain p setup inputs x.place x.state kept c.4)
    ]

length_after : (x : Entry) (kept : List Entry) → length (next_after_drop kept_entries x kept) ≡ length kept
length_after x [] = refl
length_after x (y ∷ kept) = refl

length_dropped : (p : ℕ) (kept : List Entry) → length (without kept_entries p kept) ≤ length kept
length_dropped p [] = omega arith
length_dropped p (x ∷ kept) =
    let here = length_after x kept in
    let rest = length_dropped p kept in
    elim (eqb x.place p) as
    (λ t. length (cond t (next_after_drop kept_entries x kept) (x ∷ without kept_entries p kept))
    ≤ length (x ∷ kept)) [
      | true ↦ omega (arith, here)
      | false ↦ omega (arith, rest)
    ]

no_list : {A : Type 0} (setup : Setup) (disk : List ℕ) (inputs : List Input)
    → IsConsistent setup disk inputs [] → A
no_list setup disk inputs is = absurd (let some = is.some in omega (arith, some))

pub drop_consistent : (setup : Setup) (disk : List ℕ) (inputs : List Input) (kept : List Entry) (p : ℕ)
    → p ≢ 0
    → IsConsistent setup disk inputs kept → IsConsistent setup disk inputs (without kept_entries p kept)
drop_consistent setup disk inputs [] p other is = no_list setup disk inputs is
drop_consistent setup disk inputs (x ∷ kept) p other is =
    let from = from_reset setup disk inputs x kept is in
    let few = from.few in
    let fewer = length_dropped p kept in
    subst (λ t. IsConsistent setup disk inputs (cond t (next_after_drop kept_entries x kept)
    (x ∷ without kept_entries p kept))) (sym (ne_eqb x.place p (λ e. other (sym e ∙ from.place))))
    (consistent_from setup disk inputs x (without kept_entries p kept) (record {
      place = from.place;
      state = from.state;
      linked = from.linked;
      globals = from.globals;
      few = omega (arith, few, fewer);
      chain = dropped_chain p setup inputs x.place x.state kept from.chain;
    }))

-- ---- keep

-- an entry of the run from reset, at a place that isn't kept, where all entries below it are linked
pub record CanStand (setup : Setup) (disk : List ℕ) (inputs : List Input) (x : Entry) : Type 0 where
  pub within : x.place ≤ length inputs
  pub globals : HasGlobals setup.cart x.state
  pub run : run_state setup disk inputs x.place ≡ Some x.state

abbrev LinkedTo : ℕ → List Entry → Type 0
LinkedTo p [] = Unit {0}
LinkedTo p (y ∷ kept) = (y.place ≤ p → y.linked ≡ true) × LinkedTo p kept

linked_to : (p : ℕ) (kept : List Entry)
    → ((i : ℕ) → i < length kept → place_at kept i ≤ p → linked_at kept i ≡ true) → LinkedTo p kept
linked_to p [] h = tt
linked_to p (y ∷ kept) h = (h 0 (omega arith), linked_to p kept (λ i lt. h (suc i) (omega arith)))

below_other : (a b : ℕ) → a ≤ b → a ≢ b → a < b
below_other a b le other = elim (cases_lt a b) [
  | inl lt ↦ lt
  | inr ge ↦ absurd (other (omega (arith, le, ge)))
]

module _ (setup : Setup) (disk : List ℕ) (inputs : List Input) (x : Entry)
    (can : CanStand setup disk inputs x) where
  kept_chain : (from : ℕ) (state : State) (kept : List Entry) → from < x.place
      → run_state setup disk inputs from ≡ Some state → is_kept kept_entries x.place kept ≡ false
      → LinkedTo x.place kept → Chain any setup inputs from state kept
      → Chain any setup inputs from state (with_kept kept_entries x kept)
  kept_chain from state [] above here none linked c = (
    above,
    can.within,
    can.globals,
    λ _ _. links_run setup disk inputs from x.place state x.state (omega (arith, above)) here can.run,
    tt,
  )
  kept_chain from state (y ∷ kept) above here none linked c =
      let parts = or_parts (eqb y.place x.place) (is_kept kept_entries x.place kept) none in
      let rises = c.0 in
      let goal : Bool → Type 0 = λ t. Chain any setup inputs from state
      (cond t (x ∷ y ∷ kept) (y ∷ with_kept kept_entries x kept)) in
      elim (cases_lt x.place y.place) [
        | inl before ↦
            let whole : Chain any setup inputs from state (x ∷ y ∷ kept) = (
              above,
              can.within,
              can.globals,
              λ _ _. links_run setup disk inputs from x.place state x.state
                  (omega (arith, above)) here can.run,
              (
                before,
                c.1,
                c.2,
                λ _ l. links_run setup disk inputs x.place y.place x.state y.state
                    (omega (arith, before)) can.run
                    (run_links setup disk inputs from y.place state y.state (omega (arith, rises)) here
                    (c.3 tt l)),
                c.4,
              ),
            ) in
            subst goal (sym (lt-ltb x.place y.place before)) whole
        | inr past ↦
            let there = run_links setup disk inputs from y.place state y.state (omega (arith, rises)) here
            (c.3 tt (linked.0 past)) in
            let next : y.place < x.place =
            below_other y.place x.place past (eqb-false y.place x.place parts.0) in
            let whole : Chain any setup inputs from state (y ∷ with_kept kept_entries x kept) = (
              c.0,
              c.1,
              c.2,
              c.3,
              kept_chain y.place y.state kept next there parts.1 linked.1 c.4,
            ) in
            subst goal (sym (le-ltb x.place y.place past)) whole
      ]

length_kept : (x : Entry) (kept : List Entry) → length (with_kept kept_entries x kept) ≡ length kept + 1
length_kept x [] = omega arith
length_kept x (y ∷ kept) =
    let rest = length_kept x kept in
    elim (ltb x.place y.place) as (λ t. length (cond t (x ∷ y ∷ kept) (y ∷ with_kept kept_entries x kept))
    ≡ length (y ∷ kept) + 1) [
      | true ↦ omega arith
      | false ↦ omega (arith, rest)
    ]

only_zero : (j : ℕ) → j ≤ 0 → j ≡ 0
only_zero j le = omega (arith, le)

pub keep_consistent : (setup : Setup) (disk : List ℕ) (inputs : List Input) (kept : List Entry) (x : Entry)
    → CanStand setup disk inputs x → is_kept kept_entries x.place kept ≡ false → length kept < 1024
    → ((i : ℕ) → i < length kept → place_at kept i ≤ x.place → linked_at kept i ≡ true)
    → IsConsistent setup disk inputs kept → IsConsistent setup disk inputs (with_kept kept_entries x kept)
keep_consistent setup disk inputs [] x can none room linked is = no_list setup disk inputs is
keep_consistent setup disk inputs (y ∷ kept) x can none room linked is =
    let from = from_reset setup disk inputs y kept is in
    let at = from.place in
    let parts = or_parts (eqb y.place x.place) (is_kept kept_entries x.place kept) none in
    let other : y.place ≢ x.place = eqb-false y.place x.place parts.0 in
    let above : y.place < x.place = below_other y.place x.place (omega (arith, at)) other in
    let long = length_kept x kept in
    let linked_all : LinkedTo x.place (y ∷ kept) = linked_to x.place (y ∷ kept) linked in
    subst (λ t. IsConsistent setup disk inputs (cond t (x ∷ y ∷ kept) (y ∷ with_kept kept_entries x kept)))
    (sym (le-ltb x.place y.place (omega (arith, above))))
    (consistent_from setup disk inputs y (with_kept kept_entries x kept) (record {
      place = from.place;
      state = from.state;
      linked = from.linked;
      globals = from.globals;
      few = omega (arith, room, long);
      chain = kept_chain setup disk inputs x can y.place y.state kept above
          (linked_is_run setup disk inputs (y ∷ kept) 0 is (omega arith)
          (λ j le. ap (linked_at (y ∷ kept)) (only_zero j le) ∙ from.linked)) parts.1 linked_all.1 from.chain;
    }))
