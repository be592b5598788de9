-- Kept lists by index: the first entry that passes a test, and the list without one entry.
use Rattle.std.proofs.Common.{◌≡◌, ℕ, suc, ◌+◌, ◌<◌, ◌≤◌, Bool, true, false, cond, ltb, eqb, not, List, []}
use Rattle.std.proofs.Common.{◌∷◌, ◌++◌, length, set, get_or, take, drop, Some, None, refl, sym, ap, ◌∙◌}
use Rattle.std.proofs.Common.{subst, arith, inl, inr, length-append, length-take-le}
use Rattle.std.proofs.lemmas.Bool.{cases_lt, lt-ltb, le-ltb}
use Rattle.std.specs.Option.{unwrap_or}
use Rattle.std.specs.List.{position, position_or_len, remove}
use Rattle.std.proofs.lemmas.List.{get_or_at, set_at}
use Rattle.w4_defs.specs.Session.{Kind, next_after_drop, without}

pub position_or_len_le : {X : Type 0} (test : X → Bool) (xs : List X) → position_or_len test xs ≤ length xs
position_or_len_le test [] = omega arith
position_or_len_le test (x ∷ xs) =
    elim (test x) as (λ t. cond (not t) (1 + position_or_len test xs) 0 ≤ length (x ∷ xs)) [
      | true ↦ omega arith
      | false ↦ omega (arith, position_or_len_le test xs)
    ]

pub position_else : {X : Type 0} (test : X → Bool) (xs : List X)
    → unwrap_or (position test xs) (length xs) ≡ position_or_len test xs
position_else test xs = elim (cases_lt (position_or_len test xs) (length xs)) [
  | inl inside ↦ ap (λ b. unwrap_or (cond b (Some (position_or_len test xs)) None) (length xs))
      (lt-ltb (position_or_len test xs) (length xs) inside)
  | inr past ↦
      ap (λ b. unwrap_or (cond b (Some (position_or_len test xs)) None) (length xs))
      (le-ltb (position_or_len test xs) (length xs) past)
      ∙ omega (arith, position_or_len_le test xs)
]

if_found : (b : Bool) (n i : ℕ) → cond b (Some n) None ≡ Some i → (b ≡ true) × (n ≡ i)
if_found true n i e = (refl, ap (λ o. unwrap_or o n) e)
if_found false n i e = absurd cc

if_not_found : (b : Bool) (n : ℕ) → cond b (Some n) None ≡ None → b ≡ false
if_not_found true n e = absurd cc
if_not_found false n e = refl

pub position_is : {X : Type 0} (test : X → Bool) (xs : List X) (i : ℕ) → position test xs ≡ Some i
    → (i < length xs) × (position_or_len test xs ≡ i)
position_is test xs i e =
    let found = if_found (ltb (position_or_len test xs) (length xs)) (position_or_len test xs) i e in
    elim (cases_lt (position_or_len test xs) (length xs)) [
      | inl inside ↦ (subst (λ n. n < length xs) found.1 inside, found.1)
      | inr past ↦ absurd
          (let no = le-ltb (position_or_len test xs) (length xs) past in let yes = found.0 in cc)
    ]

pub position_none : {X : Type 0} (test : X → Bool) (xs : List X) → position test xs ≡ None
    → position_or_len test xs ≡ length xs
position_none test xs e =
    let none = if_not_found (ltb (position_or_len test xs) (length xs)) (position_or_len test xs) e in
    elim (cases_lt (position_or_len test xs) (length xs)) [
      | inl inside ↦ absurd (let yes = lt-ltb (position_or_len test xs) (length xs) inside in cc)
      | inr past ↦ omega (arith, position_or_len_le test xs)
    ]

module _ {A : Type 0} (kind : Kind A) (p : ℕ) where
  abbrev stands : A → Bool
  stands x = eqb (kind.place x) p

  -- a list without the entry at index n
  abbrev pub without_index : List A → ℕ → A → List A
  without_index xs n d = take n xs ++ next_after_drop kind (get_or xs n d) (drop (suc n) xs)

  dropped_here : (b : Bool) (n : ℕ) (x d : A) (xs rest : List A) → rest ≡ without_index xs n d
      → cond b (next_after_drop kind x xs) (x ∷ rest) ≡ without_index (x ∷ xs) (cond (not b) (1 + n) 0) d
  dropped_here true n x d xs rest e = refl
  dropped_here false n x d xs rest e =
      let next : suc n ≡ 1 + n = omega arith in
      ap (λ r. x ∷ r) e ∙ ap (λ k. without_index (x ∷ xs) k d) next

  pub without_is : (xs : List A) (d : A) → without kind p xs ≡ without_index xs (position_or_len stands xs) d
  without_is [] d = refl
  without_is (x ∷ xs) d = dropped_here (stands x) (position_or_len stands xs) x d xs (without kind p xs)
      (without_is xs d)

  -- where something stands after it, that is linked anew
  linked_anew : (front rest : List A) (n : ℕ) (x y : A) → length front ≡ n → n < length (front ++ rest)
      → y ≡ get_or (front ++ rest) n y
      → set (front ++ rest) n (kind.after_drop x y) ≡ front ++ next_after_drop kind x rest
  linked_anew front [] n x y long some e = absurd (omega (arith, length-append front []))
  linked_anew front (z ∷ rest) n x y long some e =
      set_at front z rest (kind.after_drop x y) n long
      ∙ ap (λ w. front ++ kind.after_drop x w ∷ rest) (e ∙ get_or_at front z rest y n long)

  nothing_after : (front rest : List A) (n : ℕ) (x : A) → length front ≡ n → length (front ++ rest) ≤ n
      → front ++ rest ≡ front ++ next_after_drop kind x rest
  nothing_after front [] n x long none = refl
  nothing_after front (z ∷ rest) n x long none = absurd (omega (arith, length-append front (z ∷ rest)))

  pub without_linked : (xs : List A) (n : ℕ) (x y : A) → position stands xs ≡ Some n
      → n < length (remove xs n) → x ≡ get_or xs n x → y ≡ get_or (remove xs n) n y
      → set (remove xs n) n (kind.after_drop x y) ≡ without kind p xs
  without_linked xs n x y found some is_x is_y =
      let at = position_is stands xs n found in
      linked_anew (take n xs) (drop (suc n) xs) n x y (length-take-le n xs (omega (arith, at.0))) some is_y
      ∙ ap (λ w. take n xs ++ next_after_drop kind w (drop (suc n) xs)) is_x
      ∙ ap (λ k. without_index xs k x) (sym at.1)
      ∙ sym (without_is xs x)

  pub without_last_one : (xs : List A) (n : ℕ) (x : A) → position stands xs ≡ Some n
      → length (remove xs n) ≤ n → x ≡ get_or xs n x → remove xs n ≡ without kind p xs
  without_last_one xs n x found none is_x =
      let at = position_is stands xs n found in
      nothing_after (take n xs) (drop (suc n) xs) n x (length-take-le n xs (omega (arith, at.0))) none
      ∙ ap (λ w. take n xs ++ next_after_drop kind w (drop (suc n) xs)) is_x
      ∙ ap (λ k. without_index xs k x) (sym at.1)
      ∙ sym (without_is xs x)

not_there_step : {A : Type 0} (kind : Kind A) (b : Bool) (n m : ℕ) (x : A) (xs rest : List A)
    → cond (not b) (1 + n) 0 ≡ suc m → (n ≡ m → rest ≡ xs)
    → cond b (next_after_drop kind x xs) (x ∷ rest) ≡ x ∷ xs
not_there_step kind true n m x xs rest e h = absurd (omega (arith, e))
not_there_step kind false n m x xs rest e h = ap (λ r. x ∷ r) (h (omega (arith, e)))

pub without_none : {A : Type 0} (kind : Kind A) (p : ℕ) (xs : List A)
    → position_or_len (λ x. eqb (kind.place x) p) xs ≡ length xs → without kind p xs ≡ xs
without_none kind p [] e = refl
without_none kind p (x ∷ xs) e = not_there_step kind (eqb (kind.place x) p)
    (position_or_len (λ x. eqb (kind.place x) p) xs) (length xs) x xs (without kind p xs) e
    (without_none kind p xs)
