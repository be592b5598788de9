-- One turn of settling, and what the turns so far have done.
use Rattle.std.proofs.Common.{◌≡◌, ◌≢◌, ℕ, zero, suc, ◌+◌, ◌-◌, ◌<◌, ◌≤◌, Bool, true, false, cond, List}
use Rattle.std.proofs.Common.{length, set, Some, inl, inr, refl, sym, ap, ◌∙◌, ◌&&◌, subst, arith, add-one}
use Rattle.std.proofs.Common.{length-set}
use Rattle.std.specs.List.{slice_range}
use Rattle.std.proofs.lemmas.Bool.{cases_lt, cases_eq}
use Rattle.std.proofs.lemmas.List.{get_or-set_same, get_or-set_other, set_past, get_or_past}
use Rattle.w4_defs.specs.declared.console.Input.{Input}
use Rattle.w4_defs.specs.State.{State, HasGlobals}
use Rattle.w4_defs.specs.Reset.{Setup}
use Rattle.w4_defs.specs.FramesRun.{RunsAtMost}
use Rattle.w4_defs.specs.Run.{fold}
use Rattle.w4_defs.specs.SameState.{same_state}
use Rattle.w4_defs.proofs.SameStateLaws.{same_state_decides}
use Rattle.w4_defs.specs.KeptList.{Entry, kept_entries, nowhere, kept_entry_at, place_at, state_at, linked_at}
use Rattle.w4_defs.specs.KeptList.{computed, unlinked_at, relinked_at, replaced_at, SamePlaces, is_sure}
use Rattle.w4_defs.specs.KeptList.{doubtful, IsSettled, HasTrueLinks}
use Rattle.w4_editor.specs.Settling.{IsComputed}

-- ---- tests of states

same_is_true : (a b : State) → a ≡ b → same_state a b ≡ true
same_is_true a b e = (same_state_decides a b).1 e

true_is_same : (a b : State) → same_state a b ≡ true → a ≡ b
true_is_same a b e = (same_state_decides a b).0 e

other_is_false : (b : Bool) → (b ≡ true → ⊥) → b ≡ false
other_is_false true h = absurd (h refl)
other_is_false false h = refl

and_true : (b c : Bool) → c ≡ true → b ≡ (b && c)
and_true true c e = sym e
and_true false c e = refl

and_false : (b c : Bool) → c ≡ false → (b && c) ≡ false
and_false true c e = e
and_false false c e = refl

-- a segment whose entry keeps its state is sure where it is linked
pub sure_of_itself : (kept : List Entry) (i : ℕ) → linked_at kept (i + 1) ≡ is_sure kept kept i
sure_of_itself kept i = and_true (linked_at kept (i + 1)) (same_state (state_at kept i) (state_at kept i))
    (same_is_true (state_at kept i) (state_at kept i) refl)

both : (b c : Bool) → (b && c) ≡ true → (b ≡ true) × (c ≡ true)
both true c e = (refl, e)
both false c e = absurd cc

-- ---- entries after a change of one

entry_set : (kept : List Entry) (j : ℕ) (x : Entry) → j < length kept → kept_entry_at (set kept j x) j ≡ x
entry_set kept j x lt = get_or-set_same kept j x nowhere lt

entry_other : (kept : List Entry) (j k : ℕ) (x : Entry) → k ≢ j
    → kept_entry_at (set kept j x) k ≡ kept_entry_at kept k
entry_other kept j k x other = get_or-set_other kept j k x nowhere other

entry_unlinked : (kept : List Entry) (j : ℕ)
    → kept_entry_at (unlinked_at j kept) j ≡ kept_entries.unlinked (kept_entry_at kept j)
entry_unlinked kept j = elim (cases_lt j (length kept)) [
  | inl lt ↦ entry_set kept j (kept_entries.unlinked (kept_entry_at kept j)) lt
  | inr past ↦
      ap (λ (xs : List Entry). kept_entry_at xs j)
      (set_past kept j (kept_entries.unlinked (kept_entry_at kept j)) past)
      ∙ get_or_past kept j nowhere past
      ∙ ap (λ (x : Entry). kept_entries.unlinked x) (sym (get_or_past kept j nowhere past))
]

-- places stay where one entry changes at its place
place_stays : (kept : List Entry) (j : ℕ) (x : Entry) → x.place ≡ place_at kept j → j < length kept
    → (k : ℕ) → place_at (set kept j x) k ≡ place_at kept k
place_stays kept j x at lt k = elim (cases_eq k j) [
  | inl same ↦ ap (λ n. place_at (set kept j x) n) same ∙ ap (λ (y : Entry). y.place) (entry_set kept j x lt)
      ∙ at
      ∙ ap (place_at kept) (sym same)
  | inr other ↦ ap (λ (y : Entry). y.place) (entry_other kept j k x other)
]

place_unlinked : (kept : List Entry) (j k : ℕ) → place_at (unlinked_at j kept) k ≡ place_at kept k
place_unlinked kept j k = elim (cases_eq k j) [
  | inl same ↦ ap (λ n. place_at (unlinked_at j kept) n) same
      ∙ ap (λ (y : Entry). y.place) (entry_unlinked kept j)
      ∙ ap (place_at kept) (sym same)
  | inr other ↦ ap (λ (y : Entry). y.place)
      (entry_other kept j k (kept_entries.unlinked (kept_entry_at kept j)) other)
]

-- ---- one turn

-- a state that is found unchanged
pub relinked_computed : (setup : Setup) (inputs : List Input) (i : ℕ) (kept : List Entry)
    → i + 1 < length kept
    → computed setup inputs kept i ≡ Some (state_at kept (i + 1))
    → HasGlobals setup.cart (state_at kept (i + 1))
    → IsComputed setup inputs i kept (relinked_at (i + 1) kept)
relinked_computed setup inputs i kept lt state globals =
    let x : Entry = record { place = place_at kept (i + 1); state = state_at kept (i + 1); linked = true } in
    let here : kept_entry_at (set kept (i + 1) x) (i + 1) ≡ x = entry_set kept (i + 1) x lt in
    let next : i + 1 + 1 ≢ i + 1 = λ e. absurd (omega (arith, e)) in
    let after : kept_entry_at (set kept (i + 1) x) (i + 1 + 1) ≡ kept_entry_at kept (i + 1 + 1) =
    entry_other kept (i + 1) (i + 1 + 1) x next in record {
      places = record { many = length-set kept (i + 1) x; places = place_stays kept (i + 1) x refl lt };
      linked = ap (λ (y : Entry). y.linked) here;
      state = state ∙ ap (λ (y : Entry). Some y.state) (sym here);
      globals = subst (λ (y : Entry). HasGlobals setup.cart y.state) (sym here) globals;
      next = ap (λ (y : Entry). y.linked) after ∙ and_true (linked_at kept (i + 1 + 1))
          (same_state (state_at kept (i + 1)) (state_at (set kept (i + 1) x) (i + 1)))
          (same_is_true (state_at kept (i + 1)) (state_at (set kept (i + 1) x) (i + 1))
          (ap (λ (y : Entry). y.state) (sym here)));
      next_state = ap (λ (y : Entry). y.state) after;
      others = λ k other _. entry_other kept (i + 1) k x other;
    }

-- ---- a change of entry i + 1 that keeps a kept list true

-- it has what the inputs make of entry i, and the entry after it stays linked only where the state is what
-- it was
pub record IsTrueChange (setup : Setup) (inputs : List Input) (i : ℕ) (old new : List Entry) : Type 0 where
  pub places : SamePlaces old new
  pub state : computed setup inputs old i ≡ Some (state_at new (i + 1))
  pub globals : HasGlobals setup.cart (state_at new (i + 1))
  pub next : linked_at new (i + 1 + 1) ≡ true
      → (linked_at old (i + 1 + 1) ≡ true) × (state_at old (i + 1) ≡ state_at new (i + 1))
  pub next_state : state_at new (i + 1 + 1) ≡ state_at old (i + 1 + 1)
  pub others : (k : ℕ) → k ≢ i + 1 → k ≢ i + 1 + 1 → kept_entry_at new k ≡ kept_entry_at old k

pub true_change : (setup : Setup) (inputs : List Input) (i : ℕ) (old new : List Entry)
    → IsComputed setup inputs i old new → IsTrueChange setup inputs i old new
true_change setup inputs i old new c = record {
  places = c.places;
  state = c.state;
  globals = c.globals;
  next = λ link. let sure = both (linked_at old (i + 1 + 1))
      (same_state (state_at old (i + 1)) (state_at new (i + 1)))
      (sym c.next ∙ link) in (sure.0, true_is_same (state_at old (i + 1)) (state_at new (i + 1)) sure.1);
  next_state = c.next_state;
  others = c.others;
}

computed_same : (setup : Setup) (inputs : List Input) (old new : List Entry) (j : ℕ)
    → ((k : ℕ) → place_at new k ≡ place_at old k) → state_at new j ≡ state_at old j
    → computed setup inputs new j ≡ computed setup inputs old j
computed_same setup inputs old new j places state =
    λ i. fold setup (state i) (slice_range inputs (places j i) (places (j + 1) i))

module _ (setup : Setup) (inputs : List Input) (i : ℕ) (old new : List Entry)
    (c : IsTrueChange setup inputs i old new)
    (there : i + 1 < length old) (t : HasTrueLinks setup inputs old) where
  states_keep : (j : ℕ) → j ≢ i + 1 → state_at new j ≡ state_at old j
  states_keep j other = elim (cases_eq j (i + 1 + 1)) [
    | inl same ↦ ap (state_at new) same ∙ c.next_state ∙ ap (state_at old) (sym same)
    | inr far ↦ ap (λ (x : Entry). x.state) (c.others j other far)
  ]

  globals_keep : (j : ℕ) → j < length new → HasGlobals setup.cart (state_at new j)
  globals_keep j lt = elim (cases_eq j (i + 1)) [
    | inl same ↦ subst (λ k. HasGlobals setup.cart (state_at new k)) (sym same) c.globals
    | inr other ↦
        let long = c.places.many in
        subst (HasGlobals setup.cart) (sym (states_keep j other)) (t.globals j (omega (arith, lt, long)))
  ]

  links_keep : (j : ℕ) → j + 1 < length new → linked_at new (j + 1) ≡ true
      → computed setup inputs new j ≡ Some (state_at new (j + 1))
  links_keep j lt link = elim (cases_eq j i) [
    | inl here ↦
        let before : i ≢ i + 1 = λ e. absurd (omega (arith, e)) in
        subst (λ k. computed setup inputs new k ≡ Some (state_at new (k + 1))) (sym here)
        (computed_same setup inputs old new i c.places.places (states_keep i before) ∙ c.state)
    | inr other ↦ elim (cases_eq j (i + 1)) [
      | inl next ↦
          let long = c.places.many in
          let sure = c.next (ap (λ k. linked_at new (k + 1)) (sym next) ∙ link) in
          subst (λ k. computed setup inputs new k ≡ Some (state_at new (k + 1))) (sym next)
          (computed_same setup inputs old new (i + 1) c.places.places (sym sure.1)
          ∙ t.links (i + 1) (omega (arith, lt, long, next)) sure.0
          ∙ ap Some (sym c.next_state))
      | inr far ↦
          let long = c.places.many in
          let after : j + 1 ≢ i + 1 = λ e. other (omega (arith, e)) in
          let past : j + 1 ≢ i + 1 + 1 = λ e. far (omega (arith, e)) in
          let same : kept_entry_at new (j + 1) ≡ kept_entry_at old (j + 1) = c.others (j + 1) after past in
          computed_same setup inputs old new j c.places.places (states_keep j far)
          ∙ t.links j (omega (arith, lt, long)) (ap (λ (x : Entry). x.linked) (sym same) ∙ link)
          ∙ ap (λ (x : Entry). Some x.state) (sym same)
    ]
  ]

  pub changed_true : HasTrueLinks setup inputs new
  changed_true =
      let long = c.places.many in
      let places = c.places.places in record {
        rising = λ j lt. subst (λ p. p < place_at new (j + 1)) (sym (places j))
            (subst (λ p. place_at old j < p) (sym (places (j + 1))) (t.rising j (omega (arith, lt, long))));
        within = λ j lt.
            subst (λ p. p ≤ length inputs) (sym (places j)) (t.within j (omega (arith, lt, long)));
        globals = globals_keep;
        links = links_keep;
      }

  pub first_keeps : kept_entry_at new 0 ≡ kept_entry_at old 0
  first_keeps =
      let other : 0 ≢ i + 1 = λ e. absurd (omega (arith, e)) in
      let far : 0 ≢ i + 1 + 1 = λ e. absurd (omega (arith, e)) in
      c.others 0 other far

-- a state that is put, whether or not it has changed
module _ (setup : Setup) (inputs : List Input) (i : ℕ) (kept : List Entry) (state : State)
    (lt : i + 1 < length kept)
    (is : computed setup inputs kept i ≡ Some state) (globals : HasGlobals setup.cart state) where
  abbrev put_entry : Entry
  put_entry = record { place = place_at kept (i + 1); state = state; linked = true }

  abbrev put_list : List Entry
  put_list = set kept (i + 1) put_entry

  abbrev next_entry : Entry
  next_entry = kept_entries.unlinked (kept_entry_at put_list (i + 1 + 1))

  abbrev pub after_put : List Entry
  after_put = replaced_at (i + 1) state kept

  here : kept_entry_at after_put (i + 1) ≡ put_entry
  here =
      let back : i + 1 ≢ i + 1 + 1 = λ e. absurd (omega (arith, e)) in
      entry_other put_list (i + 1 + 1) (i + 1) next_entry back ∙ entry_set kept (i + 1) put_entry lt

  after : kept_entry_at after_put (i + 1 + 1) ≡ next_entry
  after = entry_unlinked put_list (i + 1 + 1)

  pub replaced_change : IsTrueChange setup inputs i kept after_put
  replaced_change =
      let next : i + 1 + 1 ≢ i + 1 = λ e. absurd (omega (arith, e)) in record {
        places = record {
          many = length-set put_list (i + 1 + 1) next_entry ∙ length-set kept (i + 1) put_entry;
          places = λ k. place_unlinked put_list (i + 1 + 1) k ∙ place_stays kept (i + 1) put_entry refl lt k;
        };
        state = is ∙ ap (λ (z : Entry). Some z.state) (sym here);
        globals = subst (λ (z : Entry). HasGlobals setup.cart z.state) (sym here) globals;
        next = λ link. absurd (let e : false ≡ true = sym (ap (λ (z : Entry). z.linked) after) ∙ link in cc);
        next_state = ap (λ (z : Entry). z.state) after
            ∙ ap (λ (z : Entry). z.state) (entry_other kept (i + 1) (i + 1 + 1) put_entry next);
        others = λ k other far. entry_other put_list (i + 1 + 1) k next_entry far
            ∙ entry_other kept (i + 1) k put_entry other;
      }

  -- a state that has changed
  pub replaced_computed : (state_at kept (i + 1) ≡ state → ⊥) → IsComputed setup inputs i kept after_put
  replaced_computed changed =
      let c = replaced_change in
      let differs : same_state (state_at kept (i + 1)) (state_at after_put (i + 1)) ≡ false =
      other_is_false (same_state (state_at kept (i + 1)) (state_at after_put (i + 1)))
      (λ e. changed (true_is_same (state_at kept (i + 1)) (state_at after_put (i + 1)) e
      ∙ ap (λ (z : Entry). z.state) here)) in record {
        places = c.places;
        linked = ap (λ (z : Entry). z.linked) here;
        state = c.state;
        globals = c.globals;
        next = ap (λ (z : Entry). z.linked) after ∙ sym (and_false (linked_at kept (i + 1 + 1))
            (same_state (state_at kept (i + 1)) (state_at after_put (i + 1))) differs);
        next_state = c.next_state;
        others = c.others;
      }

-- ---- the turns so far

-- after the turns up to entry i: the list is true, and settled so far by so many frames; where all was
-- linked it is as before
pub record Progress (setup : Setup) (inputs : List Input) (last : ℕ) (old now : List Entry)
    (i from steps : ℕ) : Type 0 where
  pub true_now : HasTrueLinks setup inputs now
  pub first : kept_entry_at now 0 ≡ kept_entry_at old 0
  pub settled : IsSettled i old now
  pub frames_run : RunsAtMost from steps (doubtful old now i)
  pub idle : ((j : ℕ) → j ≤ last → linked_at old j ≡ true) → now ≡ old

only_zero : (j : ℕ) → j ≤ 0 → j ≡ 0
only_zero j le = omega (arith, le)

pub progress_none : (setup : Setup) (inputs : List Input) (last : ℕ) (kept : List Entry) (steps : ℕ)
    → HasTrueLinks setup inputs kept → linked_at kept 0 ≡ true
    → Progress setup inputs last kept kept 0 steps steps
progress_none setup inputs last kept steps t linked = record {
  true_now = t;
  first = refl;
  settled = record {
    same = record { many = refl; places = λ i. refl };
    linked = λ j le. ap (linked_at kept) (only_zero j le) ∙ linked;
    states = λ j lt. refl;
    next = and_true (linked_at kept (0 + 1)) (same_state (state_at kept 0) (state_at kept 0))
        (same_is_true (state_at kept 0) (state_at kept 0) refl);
    links = λ j lt. refl;
  };
  frames_run = omega arith;
  idle = λ _. refl;
}

sure_same : (old now new : List Entry) (j : ℕ) → state_at new j ≡ state_at now j
    → is_sure old new j ≡ is_sure old now j
sure_same old now new j e = ap (λ s. linked_at old (j + 1) && same_state (state_at old j) s) e

doubtful_same : (old now new : List Entry) (n : ℕ) → ((j : ℕ) → j < n → state_at new j ≡ state_at now j)
    → doubtful old new n ≡ doubtful old now n
unfolding doubtful
doubtful_same old now new zero e = refl
doubtful_same old now new (suc n) e = λ i. doubtful_same old now new n (λ j lt. e j (omega arith)) i
    + cond (sure_same old now new n (e n (omega arith)) i) 0 (place_at old (n + 1) - place_at old n)

doubtful_next : (old new : List Entry) (n : ℕ)
    → doubtful old new (n + 1)
    ≡ doubtful old new n + cond (is_sure old new n) 0 (place_at old (n + 1) - place_at old n)
unfolding doubtful
doubtful_next old new n = ap (doubtful old new) (add-one n)

module _ (setup : Setup) (inputs : List Input) (last : ℕ) (old now : List Entry) (i from steps : ℕ)
    (p : Progress setup inputs last old now i from steps) where
  next_sure : is_sure old now i ≡ linked_at now (i + 1)
  next_sure = sym p.settled.next

  -- the next entry is linked
  pub progress_on : linked_at now (i + 1) ≡ true → Progress setup inputs last old now (i + 1) from steps
  progress_on link =
      let s = p.settled in
      let counted = p.frames_run in
      let sure : doubtful old now (i + 1) ≡ doubtful old now i + 0 = doubtful_next old now i
      ∙ ap (λ t. doubtful old now i + cond t 0 (place_at old (i + 1) - place_at old i))
      (next_sure ∙ link) in record {
        true_now = p.true_now;
        first = p.first;
        settled = record {
          same = s.same;
          linked = λ j le. elim (cases_eq j (i + 1)) [
            | inl same ↦ ap (linked_at now) same ∙ link
            | inr other ↦ elim (cases_lt i j) [
              | inl lt ↦ absurd (other (omega (arith, le, lt)))
              | inr low ↦ s.linked j low
            ]
          ];
          states = λ j lt. s.states j (omega (arith, lt));
          next = s.links (i + 1 + 1) (omega arith) ∙ and_true (linked_at old (i + 1 + 1))
              (same_state (state_at old (i + 1)) (state_at now (i + 1)))
              (same_is_true (state_at old (i + 1)) (state_at now (i + 1))
              (sym (s.states (i + 1) (omega arith))));
          links = λ j lt. s.links j (omega (arith, lt));
        };
        frames_run = omega (arith, counted, sure);
        idle = p.idle;
      }

  -- the next entry is brought up to date
  module _ (new : List Entry) (more : ℕ) (there : i + 1 < length now) (off : linked_at now (i + 1) ≡ false)
      (c : IsComputed setup inputs i now new)
      (ran : more ≡ steps + (place_at now (i + 1) - place_at now i)) where
    linked_more : (j : ℕ) → j ≤ i + 1 → linked_at new j ≡ true
    linked_more j le = elim (cases_eq j (i + 1)) [
      | inl same ↦ ap (linked_at new) same ∙ c.linked
      | inr other ↦
          let far : j ≢ i + 1 + 1 = λ e. absurd (omega (arith, le, e)) in
          elim (cases_lt i j) [
            | inl lt ↦ absurd (other (omega (arith, le, lt)))
            | inr low ↦ ap (λ (x : Entry). x.linked) (c.others j other far) ∙ p.settled.linked j low
          ]
    ]

    next_more : linked_at new (i + 1 + 1) ≡ is_sure old new (i + 1)
    next_more = c.next ∙ (λ k. p.settled.links (i + 1 + 1) (omega arith) k
        && same_state (p.settled.states (i + 1) (omega arith) k) (state_at new (i + 1)))

    links_more : (j : ℕ) → i + 1 + 1 < j → linked_at new j ≡ linked_at old j
    links_more j lt =
        let other : j ≢ i + 1 = λ e. absurd (omega (arith, lt, e)) in
        let far : j ≢ i + 1 + 1 = λ e. absurd (omega (arith, lt, e)) in
        ap (λ (x : Entry). x.linked) (c.others j other far) ∙ p.settled.links j (omega (arith, lt))

    states_more : (j : ℕ) → i + 1 < j → state_at new j ≡ state_at old j
    states_more j lt =
        let other : j ≢ i + 1 = λ e. absurd (omega (arith, lt, e)) in
        states_keep setup inputs i now new (true_change setup inputs i now new c) there p.true_now j other
        ∙ p.settled.states j (omega (arith, lt))

    below_same : (j : ℕ) → j < i + 1 → state_at new j ≡ state_at now j
    below_same j lt =
        let other : j ≢ i + 1 = λ e. absurd (omega (arith, lt, e)) in
        states_keep setup inputs i now new (true_change setup inputs i now new c) there p.true_now j other

    frames_more : RunsAtMost from more (doubtful old new (i + 1))
    frames_more =
        let counted = p.frames_run in
        let here = p.settled.same.places i in
        let next = p.settled.same.places (i + 1) in
        let before : doubtful old new i ≡ doubtful old now i =
        doubtful_same old now new i (λ j lt. below_same j (omega (arith, lt))) in
        let sure : is_sure old new i ≡ false =
        sure_same old now new i (below_same i (omega arith)) ∙ next_sure ∙ off in
        let sum : doubtful old new (i + 1) ≡ doubtful old new i + (place_at old (i + 1) - place_at old i) =
        doubtful_next old new i
        ∙ ap (λ t. doubtful old new i + cond t 0 (place_at old (i + 1) - place_at old i)) sure in
        omega (arith, counted, here, next, before, sum, ran)

    first_more : kept_entry_at new 0 ≡ kept_entry_at old 0
    first_more = first_keeps setup inputs i now new (true_change setup inputs i now new c) there p.true_now
        ∙ p.first

    pub progress_more : i + 1 ≤ last → Progress setup inputs last old new (i + 1) from more
    progress_more within =
        let same = p.settled.same in record {
          true_now = changed_true setup inputs i now new
              (true_change setup inputs i now new c) there p.true_now;
          first = first_more;
          settled = record {
            same = record {
              many = c.places.many ∙ same.many;
              places = λ j. c.places.places j ∙ same.places j;
            };
            linked = linked_more;
            states = states_more;
            next = next_more;
            links = links_more;
          };
          frames_run = frames_more;
          idle = λ all. absurd (
              let linked : linked_at now (i + 1) ≡ true =
              ap (λ (kept : List Entry). linked_at kept (i + 1)) (p.idle all) ∙ all (i + 1) within in
              let e : false ≡ true = sym off ∙ linked in cc);
        }
