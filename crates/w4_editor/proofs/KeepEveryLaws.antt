-- Each multiple of a number is kept, one after another.
use Rattle.std.proofs.Common.{◌≡◌, ◌≢◌, inl, inr, ℕ, Option, None, zero, suc, ◌+◌, ◌-◌, ◌%◌, ◌<◌, ◌≤◌, Bool}
use Rattle.std.proofs.Common.{true, false, cond, not, ltb, eqb, ◌&&◌, ◌||◌, List, [], ◌∷◌, map, length}
use Rattle.std.proofs.Common.{get_or, drop, refl, sym, ap, ◌∙◌, arith, subst, add-one, drop-cons}
use Rattle.std.specs.Prelude.{◌==◌}
use Rattle.std.specs.List.{filter, range_with_len}
use Rattle.std.proofs.Math.ListN.{drop_of_length-le}
use Rattle.std.proofs.lemmas.Bool.{eq-eqb, ne_eqb}
use Rattle.std.proofs.lemmas.List.{length-map}
use Rattle.w4_defs.specs.declared.editing.EditRefusal.{EditRefusal}
use Rattle.w4_defs.specs.declared.editing.EditRefusal.TheVariants.{OutOfMemory}
use Rattle.w4_defs.specs.KeptList.{Entry, kept_entries, place_at}
use Rattle.w4_defs.specs.Session.{Draft, places_alone, is_kept, keep_refusal, with_kept, all_kept}
use Rattle.w4_editor.specs.KeepEvery.{is_fresh_multiple, with_multiple}
use Rattle.w4_editor.specs.Playing.{IsCauseOrMemory}
use Rattle.w4_editor.proofs.EditorLaws.{may_keep}

-- the multiples among so many places
abbrev pub multiples_from : ℕ → ℕ → ℕ → List ℕ
multiples_from every p count = filter (λ q. q % every == 0) (range_with_len p count)

length_with : (p : ℕ) (kept : List ℕ) → length (with_kept places_alone p kept) ≡ length kept + 1
length_with p [] = refl
length_with p (y ∷ kept) =
    let rest = length_with p kept in
    elim (ltb p y) as
    (λ b. length (cond b (p ∷ y ∷ kept) (y ∷ with_kept places_alone p kept)) ≡ length (y ∷ kept) + 1) [
      | true ↦ omega arith
      | false ↦ omega (arith, rest)
    ]

kept_elsewhere : (p q : ℕ) (kept : List ℕ) → p ≢ q
    → is_kept places_alone q (with_kept places_alone p kept) ≡ is_kept places_alone q kept
kept_elsewhere p q [] other = rw (ne_eqb p q other) refl
kept_elsewhere p q (y ∷ kept) other =
    elim (ltb p y) as
    (λ b. is_kept places_alone q (cond b (p ∷ y ∷ kept) (y ∷ with_kept places_alone p kept))
    ≡ is_kept places_alone q (y ∷ kept)) [
      | true ↦ rw (ne_eqb p q other) refl
      | false ↦ ap (λ (b : Bool). eqb y q || b) (kept_elsewhere p q kept other)
    ]

-- no place is dropped
pub grows : (places kept : List ℕ) → length kept ≤ length (all_kept places kept)
grows [] kept = omega arith
grows (p ∷ places) kept =
    elim (is_kept places_alone p kept) as
    (λ b. length kept ≤ length (all_kept places (cond b kept (with_kept places_alone p kept)))) [
      | true ↦ grows places kept
      | false ↦
          let rest = grows places (with_kept places_alone p kept) in
          let one = length_with p kept in
          omega (arith, rest, one)
    ]

-- one place more
next_kept : (is_multiple : Bool) (p : ℕ) (rest kept : List ℕ)
    → all_kept (cond is_multiple (p ∷ rest) rest) kept
    ≡ all_kept rest
    (cond (is_multiple && not (is_kept places_alone p kept)) (with_kept places_alone p kept) kept)
next_kept false p rest kept = refl
next_kept true p rest kept =
    elim (is_kept places_alone p kept) as
    (λ b. all_kept rest (cond b kept (with_kept places_alone p kept))
    ≡ all_kept rest (cond (not b) (with_kept places_alone p kept) kept)) [ true ↦ refl | false ↦ refl ]

pub multiple_kept : (every p end : ℕ) (now whole : List ℕ) → p < end
    → all_kept (multiples_from every p (end - p)) now ≡ whole
    → all_kept (multiples_from every (p + 1) (end - (p + 1))) (with_multiple every p now) ≡ whole
multiple_kept every p end now whole lt so_far =
    let k : end - p ≡ suc (end - (p + 1)) = omega arith in
    let first : multiples_from every p (end - p)
    ≡ cond (p % every == 0) (p ∷ multiples_from every (p + 1) (end - (p + 1)))
    (multiples_from every (p + 1) (end - (p + 1))) = rw k refl in
    sym (next_kept (p % every == 0) p (multiples_from every (p + 1) (end - (p + 1))) now)
    ∙ ap (λ (places : List ℕ). all_kept places now) (sym first)
    ∙ so_far

pub all_are_kept : (every p end : ℕ) (now whole : List ℕ) → end ≤ p
    → all_kept (multiples_from every p (end - p)) now ≡ whole → now ≡ whole
all_are_kept every p end now whole le so_far =
    let k : end - p ≡ 0 = omega arith in
    let none : all_kept (multiples_from every p (end - p)) now ≡ now = rw k refl in
    sym none ∙ so_far

-- there is room for the next one, where there is for all
pub room_for_multiple : (every p end : ℕ) (now whole : List ℕ) → p < end
    → all_kept (multiples_from every p (end - p)) now ≡ whole → length whole ≤ 1024
    → length (with_multiple every p now) ≤ 1024
room_for_multiple every p end now whole lt so_far room =
    let more = grows (multiples_from every (p + 1) (end - (p + 1))) (with_multiple every p now) in
    let same = ap (λ (xs : List ℕ). length xs) (multiple_kept every p end now whole lt so_far) in
    omega (arith, more, same, room)

-- ---- counting: the kept list that would be reached has so many places

pub record Counted (every p end count : ℕ) (kept whole : List ℕ) : Type 0 where
  pub now : List ℕ
  pub so_far : all_kept (multiples_from every p (end - p)) now ≡ whole
  pub many : length now ≡ count
  pub later : (q : ℕ) → p ≤ q → is_kept places_alone q now ≡ is_kept places_alone q kept

pub counted_none : (every end : ℕ) (kept : List ℕ)
    → Counted every 0 end (length kept) kept (all_kept (multiples_from every 0 end) kept)
counted_none every end kept =
    let whole : end - 0 ≡ end = omega arith in record {
      now = kept;
      so_far = ap (λ (n : ℕ). all_kept (multiples_from every 0 n) kept) whole;
      many = refl;
      later = λ q le. refl;
    }

later_with : (every p q : ℕ) (now : List ℕ) → p + 1 ≤ q
    → is_kept places_alone q (with_multiple every p now) ≡ is_kept places_alone q now
later_with every p q now lt =
    elim (is_fresh_multiple every p now) as
    (λ b. is_kept places_alone q (cond b (with_kept places_alone p now) now) ≡ is_kept places_alone q now) [
      | true ↦ kept_elsewhere p q now (λ e. omega (arith, e, lt))
      | false ↦ refl
    ]

many_with : (p : ℕ) (b : Bool) (now : List ℕ)
    → length (cond b (with_kept places_alone p now) now) ≡ length now + cond b 1 0
many_with p true now = length_with p now
many_with p false now = omega arith

pub counted_more : (every p end count bit : ℕ) (kept whole : List ℕ) → p < end
    → bit ≡ cond (is_fresh_multiple every p kept) 1 0
    → Counted every p end count kept whole → Counted every (p + 1) end (count + bit) kept whole
counted_more every p end count bit kept whole lt is c =
    let same : is_fresh_multiple every p c.now ≡ is_fresh_multiple every p kept =
    ap (λ (b : Bool). (p % every == 0) && not b) (c.later p (omega arith)) in
    let many : length (with_multiple every p c.now) ≡ count + bit =
    many_with p (is_fresh_multiple every p c.now) c.now
    ∙ (λ i. c.many i + cond (same i) 1 0)
    ∙ ap (λ (n : ℕ). count + n) (sym is) in record {
      now = with_multiple every p c.now;
      so_far = multiple_kept every p end c.now whole lt c.so_far;
      many = many;
      later = λ q le. later_with every p q c.now le ∙ c.later q (omega (arith, le));
    }

pub counted_most : (every p end count : ℕ) (kept whole : List ℕ) → Counted every p end count kept whole
    → count ≤ length whole
counted_most every p end count kept whole c =
    let more = grows (multiples_from every p (end - p)) c.now in
    let same = ap (λ (xs : List ℕ). length xs) c.so_far in
    let many = c.many in
    omega (arith, more, same, many)

pub counted_all : (every p end count : ℕ) (kept whole : List ℕ) → end ≤ p
    → Counted every p end count kept whole → length whole ≡ count
counted_all every p end count kept whole le c =
    ap (λ (xs : List ℕ). length xs) (sym (all_are_kept every p end c.now whole le c.so_far)) ∙ c.many

-- ---- looking for a place among the entries

pub nth_place : (kept : List Entry) (i : ℕ) → get_or (map kept_entries.place kept) i 0 ≡ place_at kept i
nth_place [] zero = refl
nth_place [] (suc i) = refl
nth_place (x ∷ kept) zero = refl
nth_place (x ∷ kept) (suc i) = nth_place kept i

-- entry i and those after it
pub places_from : (entries : List Entry) (i : ℕ) → i < length entries
    → drop i (map kept_entries.place entries)
    ≡ place_at entries i ∷ drop (i + 1) (map kept_entries.place entries)
places_from entries i lt =
    let within : i < length (map kept_entries.place entries) =
    subst (λ n. i < n) (sym (length-map entries kept_entries.place)) lt in
    let first : drop i (map kept_entries.place entries)
    ≡ get_or (map kept_entries.place entries) i 0 ∷ drop (i + 1) (map kept_entries.place entries) =
    rw (add-one i) (drop-cons (map kept_entries.place entries) i 0 within) in
    first ∙ ap (λ (p : ℕ). p ∷ drop (i + 1) (map kept_entries.place entries)) (nth_place entries i)

pub kept_found : (p i at : ℕ) (entries : List Entry) (whole : Bool) → i < length entries
    → at ≡ place_at entries i → at ≡ p
    → is_kept places_alone p (drop i (map kept_entries.place entries)) ≡ whole → true ≡ whole
kept_found p i at entries whole lt is found so_far =
    let here : eqb (place_at entries i) p ≡ true = eq-eqb (place_at entries i) p (sym is ∙ found) in
    let all : is_kept places_alone p (drop i (map kept_entries.place entries)) ≡ true =
    rw (places_from entries i lt, here) refl in
    sym all ∙ so_far

pub kept_passed : (p i at : ℕ) (entries : List Entry) (whole : Bool) → i < length entries
    → at ≡ place_at entries i → at ≢ p
    → is_kept places_alone p (drop i (map kept_entries.place entries)) ≡ whole
    → is_kept places_alone p (drop (i + 1) (map kept_entries.place entries)) ≡ whole
kept_passed p i at entries whole lt is other so_far =
    let here : eqb (place_at entries i) p ≡ false = ne_eqb (place_at entries i) p (λ e. other (is ∙ e)) in
    let all : is_kept places_alone p (drop i (map kept_entries.place entries))
    ≡ is_kept places_alone p (drop (i + 1) (map kept_entries.place entries)) =
    rw (places_from entries i lt, here) refl in
    sym all ∙ so_far

pub kept_nowhere : (p i : ℕ) (entries : List Entry) (whole : Bool) → length entries ≤ i
    → is_kept places_alone p (drop i (map kept_entries.place entries)) ≡ whole → false ≡ whole
kept_nowhere p i entries whole le so_far =
    let past : length (map kept_entries.place entries) ≤ i =
    subst (λ n. n ≤ i) (sym (length-map entries kept_entries.place)) le in
    let none : is_kept places_alone p (drop i (map kept_entries.place entries)) ≡ false =
    rw (drop_of_length-le (map kept_entries.place entries) past) refl in
    sym none ∙ so_far

-- ---- a multiple that isn't kept yet may be kept

is_fresh : (multiple there : Bool) → multiple && not there ≡ true → there ≡ false
is_fresh true false e = refl
is_fresh true true e = absurd cc
is_fresh false there e = absurd cc

-- a place is kept if and only if it is one of the places
pub is_one : (p : ℕ) (kept : List Entry)
    → is_kept kept_entries p kept ≡ is_kept places_alone p (map kept_entries.place kept)
is_one p [] = refl
is_one p (x ∷ kept) = ap (λ (there : Bool). eqb x.place p || there) (is_one p kept)

pub may_keep_multiple : (every p : ℕ) (draft : Draft Entry) → p ≤ length draft.inputs
    → is_fresh_multiple every p (map kept_entries.place draft.kept) ≡ true
    → length (with_multiple every p (map kept_entries.place draft.kept)) ≤ 1024
    → keep_refusal kept_entries p draft ≡ None
may_keep_multiple every p draft le fresh room =
    let places = map kept_entries.place draft.kept in
    let other = is_fresh (p % every == 0) (is_kept places_alone p places) fresh in
    let more : length (with_multiple every p places) ≡ length places + 1 =
    ap (λ (b : Bool). length (cond b (with_kept places_alone p places) places)) fresh
    ∙ length_with p places in
    let many = length-map draft.kept kept_entries.place in
    may_keep p draft le (is_one p draft.kept ∙ other) (omega (arith, more, many, room))

-- where nothing refuses the place it is memory that does
pub memory_alone : (cause : Option EditRefusal) (refusal : EditRefusal) → cause ≡ None
    → IsCauseOrMemory cause refusal → refusal ≡ OutOfMemory
memory_alone cause refusal none (inl some) = let both = sym none ∙ some in absurd cc
memory_alone cause refusal none (inr memory) = memory.0
