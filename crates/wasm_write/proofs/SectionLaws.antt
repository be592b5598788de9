-- Sections without items are left out: the others stand in order, and each is found by its id.
use Rattle.std.proofs.Common.{◌≡◌, ◌≢◌, ℕ, ◌+◌, ◌<◌, ◌≤◌, true, false, eqb, nat_lt, if◌then◌else◌, inl, inr}
use Rattle.std.proofs.Common.{List, [], ◌∷◌, length, Some, None, refl, ap, subst, ◌∙◌, arith}
use Rattle.std.specs.Prelude.{flat_map, IfSome}
use Rattle.std.proofs.lemmas.Bool.{cases_lt, lt-ltb, le-ltb, eqb-true}
use Rattle.std.proofs.lemmas.Bool.Decides.{nat_tests}
use Rattle.w4_defs.specs.BinaryText.{items, itself}
use Rattle.w4_defs.specs.BinaryType.{bytes}
use Rattle.w4_defs.specs.BinarySection.{section, rank, RanksRise, contents}
use Rattle.w4_defs.specs.EncodeType.{sized_bytes}
use Rattle.w4_defs.specs.EncodeModule.{section_bytes}
use Rattle.wasm_write.specs.Fits.{IndexFits}
use Rattle.wasm_write.specs.Sections.{Slot, present, held, IdsRise}
use Rattle.wasm_write.proofs.NumberLaws.{bool_cases}
use Rattle.wasm_write.proofs.CombineLaws.{two_in_turn, after_byte, sized_encodes}

-- ---- order

tested_apart : (a b : ℕ) → a ≢ b → eqb a b ≡ false
tested_apart a b h = grind (arith, nat_tests)

rank-low : (id : ℕ) → id ≤ 9 → rank id ≡ id
rank-low id h =
    let apart : id ≢ 12 = omega arith in
    let n : eqb id 12 ≡ false = tested_apart id 12 apart in
    let t : nat_lt 9 id ≡ false = le-ltb 9 id h in
    rw (n, t)

rank-high : (id : ℕ) → 9 < id → id ≤ 11 → rank id ≡ id + 1
rank-high id h most =
    let apart : id ≢ 12 = omega arith in
    let n : eqb id 12 ≡ false = tested_apart id 12 apart in
    let t : nat_lt 9 id ≡ true = lt-ltb 9 id h in
    rw (n, t)

rank_rises : (k l : ℕ) → k < l → l ≤ 11 → rank k < rank l
rank_rises k l h most =
    elim (cases_lt 9 l) [
      | inl hl ↦
          elim (cases_lt 9 k) [
            | inl hk ↦ omega (arith, rank-high k hk (omega arith), rank-high l hl most)
            | inr hk ↦ omega (arith, rank-low k hk, rank-high l hl most)
          ]
      | inr hl ↦ omega (arith, rank-low k (omega arith), rank-low l hl)
    ]

weaker : (j k : ℕ) (ss : List Slot) → j < k → IdsRise k ss → IdsRise j ss
weaker j k [] h rises = tt
weaker j k (s ∷ ss) h rises = (omega (arith, rises.0), rises.1)

pub in_order : (last : ℕ) (ss : List Slot) → last ≤ 11 → IdsRise last ss → RanksRise (rank last) (present ss)
in_order last [] most rises = tt
in_order last ((id, None) ∷ ss) most rises = in_order last ss most (weaker last id ss rises.0 rises.1.1)
in_order last ((id, Some text) ∷ ss) most rises =
    let up : last < id = rises.0 in
    let low : id ≤ 11 = rises.1.0 in
    let some : id ≢ 0 = omega arith in
    inr (some, omega arith, rank_rises last id up low, in_order id ss low rises.1.1)

-- ---- contents

held_absent : (id : ℕ) (ss : List Slot) → IdsRise id ss → held id ss ≡ None
held_absent id [] rises = refl
held_absent id (s ∷ ss) rises =
    let up : id < s.0 = rises.0 in
    let apart : s.0 ≢ id = omega arith in
    let n : eqb s.0 id ≡ false = tested_apart s.0 id apart in
    rw n (held_absent id ss (weaker id s.0 ss up rises.1.1))

skipped : (id k : ℕ) (ss : List Slot) → IdsRise k ss → held id ss ≡ (if eqb k id then None else held id ss)
skipped id k ss rises =
    elim (bool_cases (eqb k id)) [
      | inl e ↦
          let Rises : ℕ → Type 0 = λ j. IdsRise j ss in
          let absent : held id ss ≡ None = held_absent id ss (subst Rises (eqb-true k id e) rises) in
          rw e absent
      | inr e ↦ rw e
    ]

pub contents_present : (id last : ℕ) (ss : List Slot) → IdsRise last ss
    → contents id (present ss) ≡ held id ss
contents_present id last [] rises = refl
contents_present id last ((k, None) ∷ ss) rises = contents_present id k ss rises.1.1
    ∙ skipped id k ss rises.1.1
contents_present id last ((k, Some text) ∷ ss) rises =
    ap (λ o. if eqb k id then Some text else o) (contents_present id k ss rises.1.1)

-- ---- bytes

abbrev pub SlotsFit : List Slot → Type 0
SlotsFit [] = Unit {0}
SlotsFit (s ∷ ss) = IfSome s.1 (λ text. IndexFits (length text)) × SlotsFit ss

abbrev pub slot_bytes : Slot → List ℕ
slot_bytes s = section_bytes s.0 s.1

pub sections_encode : (ss : List Slot) → SlotsFit ss → items section (present ss) (flat_map slot_bytes ss)
sections_encode [] h = refl
sections_encode ((id, None) ∷ ss) h = sections_encode ss h.1
sections_encode ((id, Some text) ∷ ss) h =
    two_in_turn
    (section (id, text))
    (items section (present ss))
    (id ∷ sized_bytes text)
    (flat_map slot_bytes ss)
    (after_byte id (bytes text) (sized_bytes text) (sized_encodes itself text text h.0 refl))
    (sections_encode ss h.1)
