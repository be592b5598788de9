-- A showing after a roll back runs no more frames than its bound says.
use Rattle.std.proofs.Common.{◌≡◌, ℕ, zero, suc, ◌+◌, ◌-◌, ◌<◌, ◌≤◌, Bool, true, false, cond, ◌&&◌, List, []}
use Rattle.std.proofs.Common.{◌∷◌, length, take, drop, refl, sym, ap, ◌∙◌, subst, arith}
use lib.Pointwise.{pointwise_decides}
use Rattle.std.specs.Bool.{Decides}
use Rattle.std.specs.Cmp.{booleans_Decides}
use Rattle.std.specs.List.{slice_get, slice_range}
use Rattle.std.proofs.lemmas.Bool.{and_parts, and_from}
use Rattle.std.proofs.lemmas.Bool.Decides.{Decides-eqb, Decides-int_eq, Decides-and, Decides-like}
use Rattle.std.proofs.lemmas.Slice.Eq.{bytes_eq-Decides}
use Rattle.w4_defs.specs.declared.console.Input.{Input}
use Rattle.w4_defs.specs.KeptList.{Entry, place_at, state_at, linked_at, first_above, is_sure, doubtful}
use Rattle.w4_defs.specs.KeptList.{show_frames}
use Rattle.w4_defs.specs.SameState.{same_state}
use Rattle.w4_editor.proofs.EditorLaws.{first_same}
use Rattle.w4_netplay.specs.Rollback.{same_input, same_between, rolled_from, rolled_back, rollback_frames}
use Rattle.w4_netplay.specs.Rollback.{KeepsLinks}

-- ---- inputs that are the same

pub input_decides : (a b : Input) → Decides (same_input a b) (a ≡ b)
input_decides a b = Decides-like (same_input a b)
    (λ p i. record {
      pads = p.0 i;
      mouse_x = p.1.0 i;
      mouse_y = p.1.1.0 i;
      buttons = p.1.1.1.0 i;
      reset = p.1.1.1.1 i;
    })
    (λ e. (
      ap (λ (x : Input). x.pads) e,
      (
        ap (λ (x : Input). x.mouse_x) e,
        (
          ap (λ (x : Input). x.mouse_y) e,
          (ap (λ (x : Input). x.buttons) e, ap (λ (x : Input). x.reset) e),
        ),
      ),
    ))
    (Decides-and _ _ (bytes_eq-Decides a.pads b.pads) (Decides-and _ _ (Decides-int_eq a.mouse_x b.mouse_x)
    (Decides-and _ _ (Decides-int_eq a.mouse_y b.mouse_y) (Decides-and _ _ (Decides-eqb a.buttons b.buttons)
    (booleans_Decides a.reset b.reset)))))

-- ---- parts of a list

get_taken : {A : Type 0} (xs : List A) (m j : ℕ) → j < m → slice_get (take m xs) j ≡ slice_get xs j
get_taken xs zero j lt = absurd (omega (arith, lt))
get_taken [] (suc m) j lt = refl
get_taken (x ∷ xs) (suc m) zero lt = refl
get_taken (x ∷ xs) (suc m) (suc j) lt = get_taken xs m j (omega (arith, lt))

pub get_dropped : {A : Type 0} (xs : List A) (a j k : ℕ) → k ≡ a + j
    → slice_get (drop a xs) j ≡ slice_get xs k
get_dropped xs zero j k same = let e : j ≡ k = omega (arith, same) in ap (slice_get xs) e
get_dropped [] (suc a) j k same = refl
get_dropped (x ∷ xs) (suc a) j zero same = absurd (omega (arith, same))
get_dropped (x ∷ xs) (suc a) j (suc k) same = get_dropped xs a j k (omega (arith, same))

get_between : {A : Type 0} (xs : List A) (from to k : ℕ) → from ≤ k → k < to
    → slice_get (slice_range xs from to) (k - from) ≡ slice_get xs k
get_between xs from to k le lt =
    get_taken (drop from xs) (to - from) (k - from) (omega (arith, le, lt))
    ∙ get_dropped xs from (k - from) k (omega (arith, le))

-- what is the same between two places is so at each
pub same_at_each : (old new : List Input) (from to k : ℕ) → same_between old new from to ≡ true
    → from ≤ k → k < to → slice_get old k ≡ slice_get new k
same_at_each old new from to k same le lt =
    sym (get_between old from to k le lt)
    ∙ ap (λ (xs : List Input). slice_get xs (k - from))
    ((pointwise_decides input_decides (slice_range old from to) (slice_range new from to)).0 same)
    ∙ get_between new from to k le lt

-- ---- the kept list that is rolled back

rolled-place : (old new : List Input) (from : ℕ) (kept : List Entry) (i : ℕ)
    → place_at (rolled_from old new from kept) i ≡ place_at kept i
unfolding rolled_from
rolled-place old new from [] i = refl
rolled-place old new from (x ∷ kept) zero = refl
rolled-place old new from (x ∷ kept) (suc i) = rolled-place old new x.place kept i

rolled-state : (old new : List Input) (from : ℕ) (kept : List Entry) (i : ℕ)
    → state_at (rolled_from old new from kept) i ≡ state_at kept i
unfolding rolled_from
rolled-state old new from [] i = refl
rolled-state old new from (x ∷ kept) zero = refl
rolled-state old new from (x ∷ kept) (suc i) = rolled-state old new x.place kept i

rolled-length : (old new : List Input) (from : ℕ) (kept : List Entry)
    → length (rolled_from old new from kept) ≡ length kept
unfolding rolled_from
rolled-length old new from [] = refl
rolled-length old new from (x ∷ kept) = ap suc (rolled-length old new x.place kept)

rolled-link : (old new : List Input) (from : ℕ) (kept : List Entry) (i : ℕ)
    → linked_at (rolled_from old new from kept) (suc i)
    ≡ (linked_at kept (suc i) && same_between old new (place_at kept i) (place_at kept (suc i)))
unfolding rolled_from
rolled-link old new from [] i = refl
rolled-link old new from (x ∷ []) i = refl
rolled-link old new from (x ∷ y ∷ kept) zero = refl
rolled-link old new from (x ∷ y ∷ kept) (suc i) = rolled-link old new x.place (y ∷ kept) i

-- ---- the bound

fewer_if : (sure owed : Bool) (m n x y : ℕ) → (owed ≡ true → sure ≡ true) → x ≡ y → m ≤ n
    → m + cond sure 0 x ≤ n + cond owed 0 y
fewer_if true true m n x y over same le = omega (arith, le)
fewer_if true false m n x y over same le = omega (arith, le)
fewer_if false true m n x y over same le = absurd (let no = over refl in cc)
fewer_if false false m n x y over same le = omega (arith, le, same)

module _ (right : ℕ → Type 0) (inputs predicted : List Input) (old now new : List Entry)
    (is : KeepsLinks right old now)
    (are_right : (k : ℕ) → slice_get inputs k ≡ slice_get predicted k → right k) where
  abbrev rolled : List Entry
  rolled = rolled_back inputs predicted old

  linked_still : (i : ℕ) → linked_at rolled (i + 1) ≡ true → linked_at now (i + 1) ≡ true
  linked_still i linked =
      let next : i + 1 ≡ suc i = omega arith in
      let both = and_parts (linked_at old (suc i))
      (same_between inputs predicted (place_at old i) (place_at old (suc i)))
      (sym (rolled-link inputs predicted 0 old i) ∙ subst (λ j. linked_at rolled j ≡ true) next linked) in
      is.links i (subst (λ j. linked_at old j ≡ true) (sym next) both.0)
      (λ k from below. are_right k (same_at_each inputs predicted (place_at old i) (place_at old (suc i)) k
      both.1 from (subst (λ j. k < place_at old j) next below)))

  sure_still : (i : ℕ) → is_sure rolled new i ≡ true → is_sure now new i ≡ true
  sure_still i sure =
      let both =
      and_parts (linked_at rolled (i + 1)) (same_state (state_at rolled i) (state_at new i)) sure in
      and_from (linked_at now (i + 1)) (same_state (state_at now i) (state_at new i))
      (linked_still i both.0)
      (ap (λ s. same_state s (state_at new i)) (is.states i ∙ sym (rolled-state inputs predicted 0 old i))
      ∙ both.1)

  places_now : (i : ℕ) → place_at now i ≡ place_at rolled i
  places_now i = is.places.places i ∙ sym (rolled-place inputs predicted 0 old i)

  pub fewer_doubtful : (n : ℕ) → doubtful now new n ≤ doubtful rolled new n
  unfolding doubtful
  fewer_doubtful zero = omega arith
  fewer_doubtful (suc n) =
      let here = places_now n in
      let there = places_now (n + 1) in
      fewer_if (is_sure now new n) (is_sure rolled new n) (doubtful now new n) (doubtful rolled new n)
      (place_at now (n + 1) - place_at now n) (place_at rolled (n + 1) - place_at rolled n)
      (sure_still n) (omega (arith, here, there)) (fewer_doubtful n)

  -- so the showing runs no more frames than the bound
  pub shown_within : (p : ℕ) → show_frames p now new ≤ rollback_frames p inputs predicted old new
  shown_within p =
      let long = is.places.many in
      let rolled_long = rolled-length inputs predicted 0 old in
      let last : first_above p now ≡ first_above p rolled =
      first_same p rolled now (long ∙ sym rolled_long) places_now in
      let n : ℕ = first_above p rolled - 1 in
      let few = fewer_doubtful n in
      let here = places_now n in
      subst (λ (above : ℕ). doubtful now new (above - 1) + (p - place_at now (above - 1))
      ≤ rollback_frames p inputs predicted old new) (sym last) (omega (arith, few, here))
