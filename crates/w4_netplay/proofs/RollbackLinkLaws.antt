-- Which links are kept where inputs are written.
use Rattle.std.proofs.Common.{◌≡◌, ℕ, zero, suc, ◌+◌, ◌<◌, ◌≤◌, Bool, true, false, cond, List, [], ◌∷◌}
use Rattle.std.proofs.Common.{length, min, max, refl, sym, ap, ◌∙◌, subst, inl, inr, arith}
use Rattle.std.proofs.lemmas.Bool.{cases_lt, le-ltb}
use Rattle.w4_defs.specs.KeptList.{Entry, SamePlaces, kept_entries, places_of, place_at, state_at, linked_at}
use Rattle.w4_editor.specs.KeptList.{is_between, unlink_between}
use Rattle.w4_netplay.specs.Rollback.{KeepsLinks}

-- ---- the same places

listed : (old new : List Entry) → length new ≡ length old → ((i : ℕ) → place_at new i ≡ place_at old i)
    → places_of new ≡ places_of old
listed [] [] long same = refl
listed [] (y ∷ new) long same = absurd (omega (arith, long))
listed (x ∷ old) [] long same = absurd (omega (arith, long))
listed (x ∷ old) (y ∷ new) long same =
    λ j. same 0 j ∷ listed old new (omega (arith, long)) (λ i. same (suc i)) j

pub same_places : (old new : List Entry) → SamePlaces old new → places_of new ≡ places_of old
same_places old new same = listed old new same.many same.places

-- ---- which entries lose their link

module _ (k end : ℕ) where
  between-place : (from : ℕ) (kept : List Entry) (i : ℕ)
      → place_at (unlink_between k end from kept) i ≡ place_at kept i
  between-place from [] i = refl
  between-place from (x ∷ kept) zero = elim (is_between k end from x.place) as (λ t.
      place_at (cond t (kept_entries.unlinked x) x ∷ unlink_between k end x.place kept) 0 ≡ x.place) [
        | true ↦ refl
        | false ↦ refl
      ]
  between-place from (x ∷ kept) (suc i) = between-place x.place kept i

  between-state : (from : ℕ) (kept : List Entry) (i : ℕ)
      → state_at (unlink_between k end from kept) i ≡ state_at kept i
  between-state from [] i = refl
  between-state from (x ∷ kept) zero = elim (is_between k end from x.place) as (λ t.
      state_at (cond t (kept_entries.unlinked x) x ∷ unlink_between k end x.place kept) 0 ≡ x.state) [
        | true ↦ refl
        | false ↦ refl
      ]
  between-state from (x ∷ kept) (suc i) = between-state x.place kept i

  between-length : (from : ℕ) (kept : List Entry) → length (unlink_between k end from kept) ≡ length kept
  between-length from [] = refl
  between-length from (x ∷ kept) = ap suc (between-length x.place kept)

  nowhere-linked : (t : Bool) → false ≡ cond t false false
  nowhere-linked true = refl
  nowhere-linked false = refl

  first-linked : (from : ℕ) (kept : List Entry) → linked_at (unlink_between k end from kept) 0
      ≡ cond (is_between k end from (place_at kept 0)) false (linked_at kept 0)
  first-linked from [] = nowhere-linked (is_between k end from 0)
  first-linked from (x ∷ kept) = elim (is_between k end from x.place) as (λ t.
      linked_at (cond t (kept_entries.unlinked x) x ∷ unlink_between k end x.place kept) 0
      ≡ cond t false x.linked) [
        | true ↦ refl
        | false ↦ refl
      ]

  between-linked : (from : ℕ) (kept : List Entry) (i : ℕ)
      → linked_at (unlink_between k end from kept) (suc i)
      ≡ cond (is_between k end (place_at kept i) (place_at kept (suc i))) false (linked_at kept (suc i))
  between-linked from [] i = nowhere-linked (is_between k end 0 0)
  between-linked from (x ∷ kept) zero = first-linked x.place kept
  between-linked from (x ∷ kept) (suc i) = between-linked x.place kept i

  -- an entry stays linked where none of the inputs is between it and the entry before
  stays-linked : (kept : List Entry) (i p q : ℕ) → place_at kept i ≡ p → place_at kept (suc i) ≡ q
      → min end q ≤ max k p → linked_at kept (suc i) ≡ true
      → linked_at (unlink_between k end 0 kept) (suc i) ≡ true
  stays-linked kept i p q here there apart linked =
      let past : min end (place_at kept (suc i)) ≤ max k (place_at kept i) =
      omega (arith, here, there, apart) in
      between-linked 0 kept i
      ∙ ap (λ t. cond t false (linked_at kept (suc i)))
      (le-ltb (max k (place_at kept i)) (min end (place_at kept (suc i))) past)
      ∙ linked

-- ---- written inputs

pub links_all : (right : ℕ → Type 0) (kept : List Entry) → KeepsLinks right kept kept
links_all right kept = record {
  places = record { many = refl; places = λ i. refl };
  states = λ i. refl;
  links = λ i linked all. linked;
}

-- fewer inputs are right
pub links_fewer : (right fewer : ℕ → Type 0) (old new : List Entry) → ((k : ℕ) → fewer k → right k)
    → KeepsLinks right old new → KeepsLinks fewer old new
links_fewer right fewer old new over is = record {
  places = is.places;
  states = is.states;
  links = λ i linked all. is.links i linked (λ k from below. over k (all k from below));
}

-- inputs are written, none of which was right
pub links_between : (right : ℕ → Type 0) (k end : ℕ) (old now : List Entry)
    → ((j : ℕ) → k ≤ j → j < end → right j → ⊥)
    → KeepsLinks right old now → KeepsLinks right old (unlink_between k end 0 now)
links_between right k end old now wrong is = record {
  places = record {
    many = between-length k end 0 now ∙ is.places.many;
    places = λ i. between-place k end 0 now i ∙ is.places.places i;
  };
  states = λ i. between-state k end 0 now i ∙ is.states i;
  links = λ i linked all.
      let next : i + 1 ≡ suc i = omega arith in
      let p = place_at old i in
      let q = place_at old (i + 1) in
      let there = subst (λ j. place_at now j ≡ q) next (is.places.places (i + 1)) in
      let still = subst (λ j. linked_at now j ≡ true) next (is.links i linked all) in
      elim (cases_lt (max k p) (min end q)) [
        | inl meet ↦ absurd (wrong (max k p) (omega arith) (omega (arith, meet))
            (all (max k p) (omega arith) (omega (arith, meet))))
        | inr apart ↦ subst (λ j. linked_at (unlink_between k end 0 now) j ≡ true) (sym next)
            (stays-linked k end now i p q (is.places.places i) there apart still)
      ];
}
