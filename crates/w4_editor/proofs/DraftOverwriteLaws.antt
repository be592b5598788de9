-- Several inputs are written at once: which entries lose their link, and that the others tell the truth.
use Rattle.std.proofs.Common.{◌≡◌, ℕ, zero, suc, ◌+◌, ◌-◌, ◌<◌, ◌≤◌, Bool, false, cond, List, [], ◌∷◌, ◌++◌}
use Rattle.std.proofs.Common.{length, take, drop, set, get_or, min, max, refl, sym, ap, ◌∙◌, subst, inl, inr}
use Rattle.std.proofs.Common.{arith, append_assoc, length-append, length-take-le, length-drop}
use Rattle.std.specs.List.{slice_range}
use Rattle.std.proofs.lemmas.Bool.{cases_lt, lt-ltb, le-ltb}
use Rattle.std.proofs.lemmas.List.{set_split, drop-drop, drop-set-lt, drop_more}
use Rattle.w4_defs.specs.declared.console.Input.{Input}
use Rattle.w4_defs.specs.KeptList.{Entry, IsConsistent, kept_entries}
use Rattle.w4_defs.specs.Reset.{Setup}
use Rattle.w4_defs.specs.Run.{fold}
use Rattle.w4_defs.specs.Session.{unlink_above}
use Rattle.w4_defs.specs.State.{State}
use Rattle.w4_editor.specs.Draft.{OverwritesOne, inputs_after_overwrite, kept_after_overwrite}
use Rattle.w4_editor.specs.KeptList.{is_between, unlink_between}
use Rattle.w4_editor.proofs.ChainLaws.{any, Chain, from_reset, consistent_from}
use Rattle.w4_editor.proofs.SliceLaws.{before_splice, after_splice, nothing_spliced}

-- what the edit does to one entry
abbrev pub unlinked_if : Bool → Entry → Entry
unlinked_if lost x = cond lost (kept_entries.unlinked x) x

-- ---- one entry after another

set_first : {A : Type 0} (xs rest : List A) (i : ℕ) (x y : A) → drop i xs ≡ x ∷ rest
    → take (suc i) (set xs i y) ≡ take i xs ++ y ∷ []
set_first [] rest zero x y at = absurd cc
set_first (z ∷ xs) rest zero x y at = refl
set_first [] rest (suc i) x y at = absurd cc
set_first (z ∷ xs) rest (suc i) x y at = ap (λ front. z ∷ front) (set_first xs rest i x y at)

-- the entries up to one are as they will be, and those from it on as they were: so one further
pub between_more : (k end : ℕ) (old now : List Entry) (i from place : ℕ) (x y : Entry) → i < length now
    → (unlink_between k end 0 old ≡ take i now ++ unlink_between k end from (drop i old))
    × (drop i now ≡ drop i old)
    → x ≡ get_or now i x → y ≡ unlinked_if (is_between k end from x.place) x → place ≡ x.place
    → (unlink_between k end 0 old
    ≡ take (i + 1) (set now i y) ++ unlink_between k end place (drop (i + 1) old))
    × (drop (i + 1) (set now i y) ≡ drop (i + 1) old)
between_more k end old now i from place x y lt so_far x_is y_is place_is =
    let more : i + 1 ≡ suc i = omega arith in
    let at : drop i now ≡ x ∷ drop (i + 1) now =
    drop_more now i x lt ∙ ap (λ (z : Entry). z ∷ drop (i + 1) now) (sym x_is) in
    let next : drop (i + 1) now ≡ drop (i + 1) old =
    sym (drop-drop 1 i now) ∙ ap (drop 1) so_far.1 ∙ drop-drop 1 i old in
    let there : drop i old ≡ x ∷ drop (i + 1) old =
    sym so_far.1 ∙ at ∙ ap (λ (rest : List Entry). x ∷ rest) next in (
      so_far.0
          ∙ ap (λ (rest : List Entry). take i now ++ unlink_between k end from rest) there
          ∙ (λ j. take i now ++ (sym y_is j ∷ unlink_between k end (sym place_is j) (drop (i + 1) old)))
          ∙ sym (append_assoc (take i now) (y ∷ []) (unlink_between k end place (drop (i + 1) old)))
          ∙ ap (λ (front : List Entry). front ++ unlink_between k end place (drop (i + 1) old))
          (sym (ap (λ n. take n (set now i y)) more ∙ set_first now (drop (i + 1) now) i x y at)),
      drop-set-lt (i + 1) now i y (omega arith) ∙ next,
    )

-- ---- the inputs

pub length_overwritten : (k : ℕ) (written inputs : List Input) → k ≤ length inputs
    → length (inputs_after_overwrite k written inputs)
    ≡ k + (length written + (length inputs - (k + length written)))
length_overwritten k written inputs within =
    let front = length-take-le k inputs within in
    let rest = length-drop (k + length written) inputs in
    let both = length-append written (drop (k + length written) inputs) in
    length-append (take k inputs) (written ++ drop (k + length written) inputs)
    ∙ omega (arith, front, rest, both)

-- ---- the kept list

length_unlinked : (k end from : ℕ) (kept : List Entry)
    → length (unlink_between k end from kept) ≡ length kept
length_unlinked k end from [] = refl
length_unlinked k end from (x ∷ kept) = ap suc (length_unlinked k end x.place kept)

module _ (setup : Setup) (k : ℕ) (written old : List Input) (within : k ≤ length old) where
  abbrev end : ℕ
  end = k + length written

  abbrev new : List Input
  new = inputs_after_overwrite k written old

  -- an input that isn't written is as it was
  apart : (p q : ℕ) → p < q → min end q ≤ max k p → slice_range new p q ≡ slice_range old p q
  apart p q rise past = elim (cases_lt 0 (length written)) [
    | inl some ↦ elim (cases_lt k q) [
      | inl below ↦ after_splice old k p q written within (omega (arith, rise, past, below, some))
      | inr low ↦ before_splice old k p q written within low
    ]
    | inr none ↦ ap (λ (xs : List Input). slice_range xs p q) (nothing_spliced old k written none)
  ]

  overwritten_chain : (from : ℕ) (state : State) (kept : List Entry) → Chain any setup old from state kept
      → Chain any setup new from state (unlink_between k end from kept)
  overwritten_chain from state [] c = tt
  overwritten_chain from state (x ∷ kept) c =
      let long = length_overwritten k written old within in
      let inside = c.1 in
      let low : x.place ≤ length new = omega (arith, long, inside) in
      let rest = overwritten_chain x.place x.state kept c.4 in
      let goal : Bool → Type 0 = λ t. Chain any setup new from state
      (unlinked_if t x ∷ unlink_between k end x.place kept) in
      elim (cases_lt (max k from) (min end x.place)) [
        | inl lost ↦ subst goal (sym (lt-ltb (max k from) (min end x.place) lost))
            (c.0, low, c.2, λ _ linked. absurd cc, rest)
        | inr kept_it ↦ subst goal (sym (le-ltb (max k from) (min end x.place) kept_it)) (
          c.0,
          low,
          c.2,
          λ _ linked. ap (fold setup state) (apart from x.place c.0 kept_it)
              ∙ c.3 tt linked,
          rest,
        )
      ]

pub overwrite_consistent : (setup : Setup) (disk : List ℕ) (inputs : List Input) (kept : List Entry) (k : ℕ)
    (written : List Input) → k ≤ length inputs → IsConsistent setup disk inputs kept
    → IsConsistent setup disk (inputs_after_overwrite k written inputs) (kept_after_overwrite k written kept)
overwrite_consistent setup disk inputs [] k written within is =
    absurd (let some = is.some in omega (arith, some))
overwrite_consistent setup disk inputs (x ∷ kept) k written within is =
    let from = from_reset setup disk inputs x kept is in
    let at = from.place in
    let few = from.few in
    let end : ℕ = k + length written in
    let rest = unlink_between k end x.place kept in
    let long = length_unlinked k end x.place kept in
    let first : is_between k end 0 x.place ≡ false =
    le-ltb (max k 0) (min end x.place) (omega (arith, at)) in
    subst (λ t. IsConsistent setup disk (inputs_after_overwrite k written inputs) (unlinked_if t x ∷ rest))
    (sym first)
    (consistent_from setup disk (inputs_after_overwrite k written inputs) x rest (record {
      place = from.place;
      state = from.state;
      linked = from.linked;
      globals = from.globals;
      few = omega (arith, few, long);
      chain = overwritten_chain setup k written inputs within x.place x.state kept from.chain;
    }))

-- ---- one input

module _ (setup : Setup) (inputs : List Input) (k : ℕ) where
  -- nothing past it is unlinked
  none_past : (from : ℕ) (state : State) (kept : List Entry) → k < from
      → Chain any setup inputs from state kept
      → unlink_between k (k + 1) from kept ≡ kept
  none_past from state [] past c = refl
  none_past from state (x ∷ kept) past c =
      let rise = c.0 in
      let rest = none_past x.place x.state kept (omega (arith, past, rise)) c.4 in
      (λ i. unlinked_if (le-ltb (max k from) (min (k + 1) x.place) (omega (arith, past)) i) x ∷ rest i)

  one_unlinked : (from : ℕ) (state : State) (kept : List Entry) → from ≤ k
      → Chain any setup inputs from state kept
      → unlink_between k (k + 1) from kept ≡ unlink_above kept_entries k kept
  one_unlinked from state [] low c = refl
  one_unlinked from state (x ∷ kept) low c = elim (cases_lt k x.place) [
    | inl past ↦
        (λ i. unlinked_if (lt-ltb (max k from) (min (k + 1) x.place) (omega (arith, low, past)) i) x
        ∷ none_past x.place x.state kept past c.4 i)
        ∙ ap (λ t. cond t (kept_entries.unlinked x ∷ kept) (x ∷ unlink_above kept_entries k kept))
        (sym (lt-ltb k x.place past))
    | inr not_past ↦
        (λ i. unlinked_if (le-ltb (max k from) (min (k + 1) x.place) (omega (arith, not_past)) i) x
        ∷ one_unlinked x.place x.state kept not_past c.4 i)
        ∙ ap (λ t. cond t (kept_entries.unlinked x ∷ kept) (x ∷ unlink_above kept_entries k kept))
        (sym (le-ltb k x.place not_past))
  ]

kept_of_one : (setup : Setup) (disk : List ℕ) (inputs : List Input) (k : ℕ) (kept : List Entry)
    → IsConsistent setup disk inputs kept
    → unlink_between k (k + 1) 0 kept ≡ unlink_above kept_entries k kept
kept_of_one setup disk inputs k [] is = refl
kept_of_one setup disk inputs k (x ∷ kept) is =
    let from = from_reset setup disk inputs x kept is in
    let at = from.place in
    let low : x.place ≤ k = omega (arith, at) in
    (λ i. unlinked_if (le-ltb (max k 0) (min (k + 1) x.place) (omega (arith, at)) i) x
    ∷ one_unlinked setup inputs k x.place x.state kept low from.chain i)
    ∙ ap (λ t. cond t (kept_entries.unlinked x ∷ kept) (x ∷ unlink_above kept_entries k kept))
    (sym (le-ltb k x.place low))

pub overwrites_one : OverwritesOne
overwrites_one setup disk k input draft is there =
    let inputs : List Input = draft.inputs in
    let next : k + 1 ≡ suc k = omega arith in
    λ i. record {
      inputs = (ap (λ n. take k inputs ++ input ∷ drop n inputs) next
          ∙ sym (set_split inputs k input there)) i;
      kept = kept_of_one setup disk inputs k draft.kept is.kept i;
    }
