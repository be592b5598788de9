-- What a chain of links says, what an edit unlinks, and the places of a consistent kept list.
use Rattle.std.proofs.Common.{◌≡◌, ℕ, zero, suc, ◌+◌, ◌-◌, ◌<◌, ◌≤◌, Bool, true, false, cond, not, ltb, List, [], ◌∷◌, length, take, drop, Option, Some, None, option_map, refl, ap, ◌∙◌, subst, arith, add-one}
use Rattle.std.specs.Option.{option_and_then}
use Rattle.std.specs.List.{insert}
use Rattle.std.proofs.lemmas.List.{length-map}
use Rattle.w4_defs.specs.declared.console.Input.{Input}
use Rattle.w4_defs.specs.State.{Moment}
use Rattle.w4_defs.specs.Reset.{Setup, reset}
use Rattle.w4_defs.specs.Run.{fold, run_state}
use Rattle.w4_defs.specs.Session.{Rise}
use Rattle.w4_defs.specs.KeptList.{Entry, kept_entries, place_at, places_of, state_at, linked_at, first_above, computed, ConsistentPlaces, LinkedIsRun, unlinked_at, UnlinksOne, KeptInOrder}
use Rattle.w4_defs.proofs.RunLaws.{runs_between}

-- ---- linked entries

and_then_some : (o : Option Moment) → option_and_then (λ m. Some m) o ≡ o
and_then_some None = refl
and_then_some (Some m) = refl

-- the state of a run at place 0 is that of the reset
run_begins : (setup : Setup) (disk : List ℕ) (inputs : List Input)
    → run_state setup disk inputs 0 ≡ option_map (λ moment. moment.state) (reset setup disk)
run_begins setup disk inputs = ap (option_map (λ (moment : Moment). moment.state)) (and_then_some
    (reset setup disk))

-- an entry that has the state of the run, and a link after it
abbrev IsRun : Setup → List ℕ → List Input → List Entry → ℕ → Type 0
IsRun setup disk inputs kept i = run_state setup disk inputs (place_at kept i) ≡ Some (state_at kept i)

next_is_run : (setup : Setup) (disk : List ℕ) (inputs : List Input) (kept : List Entry) (i : ℕ)
    → IsRun setup disk inputs kept i
    → place_at kept i < place_at kept (i + 1)
    → computed setup inputs kept i ≡ Some (state_at kept (i + 1)) → IsRun setup disk inputs kept (i + 1)
next_is_run setup disk inputs kept i here rising link =
    let more : ℕ = place_at kept (i + 1) - place_at kept i in
    let there : place_at kept (i + 1) ≡ place_at kept i + more = omega arith in
    ap (run_state setup disk inputs) there
    ∙ runs_between setup disk inputs (place_at kept i) more
    ∙ ap (option_and_then (λ state. fold setup state (take more (drop (place_at kept i) inputs)))) here
    ∙ link

pub linked_is_run : LinkedIsRun
linked_is_run setup disk inputs kept zero is within linked =
    ap (run_state setup disk inputs) is.first_place ∙ run_begins setup disk inputs ∙ is.first_state
linked_is_run setup disk inputs kept (suc i) is within linked =
    let next : i + 1 < length kept = omega arith in
    let link : linked_at kept (i + 1) ≡ true = linked (i + 1) (omega arith) in
    let here = linked_is_run setup disk inputs kept i is (omega arith) (λ j le. linked j (omega arith)) in
    subst (IsRun setup disk inputs kept) (add-one i) (next_is_run setup disk inputs kept i here
    (is.true_links.rising i next) (is.true_links.links i next link))

-- ---- unlinking

unlinks_here : (b : Bool) (n : ℕ) (x : Entry) (kept : List Entry)
    → cond b (kept_entries.unlinked x ∷ kept) (x ∷ unlinked_at n kept)
    ≡ unlinked_at (cond (not b) (1 + n) 0) (x ∷ kept)
unlinks_here true n x kept = refl
unlinks_here false n x kept = let e : suc n ≡ 1 + n = omega arith in ap (λ k. unlinked_at k (x ∷ kept)) e

pub unlinks_one : UnlinksOne
unlinks_one p [] = refl
unlinks_one p (x ∷ kept) =
    ap (λ rest. cond (ltb p x.place) (kept_entries.unlinked x ∷ kept) (x ∷ rest)) (unlinks_one p kept)
    ∙ unlinks_here (ltb p x.place) (first_above p kept) x kept

put_here : (b : Bool) (n : ℕ) (x y : Entry) (kept : List Entry)
    → cond b (x ∷ y ∷ kept) (y ∷ insert kept n x) ≡ insert (y ∷ kept) (cond (not b) (1 + n) 0) x
put_here true n x y kept = refl
put_here false n x y kept = let e : suc n ≡ 1 + n = omega arith in ap (λ k. insert (y ∷ kept) k x) e

pub kept_in_order : KeptInOrder
kept_in_order x [] = refl
kept_in_order x (y ∷ kept) =
    ap (λ rest. cond (ltb x.place y.place) (x ∷ y ∷ kept) (y ∷ rest)) (kept_in_order x kept)
    ∙ put_here (ltb x.place y.place) (first_above x.place kept) x y kept

-- ---- places

-- entries that rise by index
abbrev Rising : List Entry → Type 0
Rising kept = (i : ℕ) → i + 1 < length kept → place_at kept i < place_at kept (i + 1)

rising_after : (x : Entry) (kept : List Entry) → Rising (x ∷ kept) → Rising kept
rising_after x kept rising i h =
    let next : suc i + 1 ≡ suc (i + 1) = omega arith in
    subst (λ j. place_at kept i < place_at (x ∷ kept) j) next (rising (suc i) (omega arith))

-- then they rise one after another
rise_on : (n from : ℕ) (kept : List Entry) → ((i : ℕ) → i < length kept → place_at kept i ≤ n) → from ≤ n
    → (0 < length kept → from < place_at kept 0) → Rising kept
    → Rise from n (places_of kept)
rise_on n from [] within le first rising = le
rise_on n from (x ∷ kept) within le first rising = (
  first (omega arith),
  rise_on n x.place kept (λ i h. within (suc i) (omega arith)) (within 0 (omega arith))
      (λ some. rising 0 (omega arith))
      (rising_after x kept rising),
)

pub consistent_places : ConsistentPlaces
consistent_places setup disk inputs [] is = absurd (omega (arith, is.some))
consistent_places setup disk inputs (x ∷ kept) is =
    let same : x.place ≡ 0 = is.first_place in
    let within = is.true_links.within in
    let rise = rise_on (length inputs) x.place kept (λ i h. within (suc i) (omega arith))
    (within 0 (omega arith))
    (λ some. is.true_links.rising 0 (omega arith))
    (rising_after x kept is.true_links.rising) in (
      same,
      subst (λ from. Rise from (length inputs) (places_of kept)) same rise,
      omega
          (arith, is.few, length-map kept (λ (e : Entry). e.place)),
    )
