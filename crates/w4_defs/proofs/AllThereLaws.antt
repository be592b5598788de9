-- Texts and values that are all there, put together in parts.
use Rattle.std.proofs.Common.{◌≡◌, ℕ, zero, suc, ◌+◌, List, [], ◌∷◌, ◌++◌, append_assoc, append-nil, Option, Some, None, option_map, option_and_then, refl, sym, ap, ◌∙◌, arith}
use Rattle.w4_defs.specs.AllThere.{joined, all_some}
use Rattle.w4_defs.specs.PlaceTexts.{place_texts}

-- ---- texts

pub joined_nothing : (text : Option (List ℕ)) → joined text (Some []) ≡ text
joined_nothing None = refl
joined_nothing (Some text) = ap Some (append-nil text)

pub nothing_joined : (text : Option (List ℕ)) → joined (Some []) text ≡ text
nothing_joined None = refl
nothing_joined (Some text) = refl

pub joined_assoc : (first second third : Option (List ℕ))
    → joined (joined first second) third ≡ joined first (joined second third)
joined_assoc None second third = refl
joined_assoc (Some first) None third = refl
joined_assoc (Some first) (Some second) None = refl
joined_assoc (Some first) (Some second) (Some third) = ap Some (append_assoc first second third)

-- a text that is written piece by piece
pub joined_on : (front piece : List ℕ) (rest : Option (List ℕ))
    → joined (Some (front ++ piece)) rest ≡ joined (Some front) (joined (Some piece) rest)
joined_on front piece rest = joined_assoc (Some front) (Some piece) rest

-- ---- texts of places

module _ (text : ℕ → Option (List ℕ)) where
  pub places_none : (place : ℕ) → place_texts text place 0 ≡ Some []
  places_none place = refl

  pub places_one : (place : ℕ) → place_texts text place 1 ≡ text place
  places_one place = joined_nothing (text place)

  pub places_next : (place count : ℕ)
      → place_texts text place (suc count) ≡ joined (text place) (place_texts text (place + 1) count)
  places_next place count = refl

  pub places_in_parts : (m n all place middle : ℕ) → all ≡ m + n → middle ≡ place + m
      → place_texts text place all ≡ joined (place_texts text place m) (place_texts text middle n)
  places_in_parts zero n all place middle long at =
      let rest : all ≡ n = omega (arith, long) in
      let here : place ≡ middle = omega (arith, at) in
      (λ i. place_texts text (here i) (rest i)) ∙ sym (nothing_joined (place_texts text middle n))
  places_in_parts (suc m) n all place middle long at =
      let more : all ≡ suc (m + n) = omega (arith, long) in
      ap (place_texts text place) more
      ∙ ap (joined (text place)) (places_in_parts m n (m + n) (place + 1) middle refl (omega (arith, at)))
      ∙ sym (joined_assoc (text place) (place_texts text (place + 1) m) (place_texts text middle n))

-- ---- values

none_before : {A : Type 0} (rest : Option (List A)) → rest ≡ option_map (λ back. [] ++ back) rest
none_before None = refl
none_before (Some rest) = refl

one_before : {A : Type 0} (x : Option A) (first rest : Option (List A)) →
    option_and_then (λ value. option_map (λ values. value ∷ values)
    (option_and_then (λ front. option_map (λ back. front ++ back) rest) first)) x
    ≡ option_and_then (λ front. option_map (λ back. front ++ back) rest)
    (option_and_then (λ value. option_map (λ values. value ∷ values) first) x)
one_before None first rest = refl
one_before (Some value) None rest = refl
one_before (Some value) (Some first) None = refl
one_before (Some value) (Some first) (Some rest) = refl

pub values_in_parts : {A : Type 0} (xs ys : List (Option A)) → all_some (xs ++ ys)
    ≡ option_and_then (λ front. option_map (λ back. front ++ back) (all_some ys)) (all_some xs)
values_in_parts [] ys = none_before (all_some ys)
values_in_parts {A} (x ∷ xs) ys =
    ap (λ (all : Option (List A)). option_and_then (λ value. option_map (λ values. value ∷ values) all) x)
    (values_in_parts xs ys)
    ∙ one_before x (all_some xs) (all_some ys)

-- one value more
pub values_more : {A : Type 0} (xs : List (Option A)) (so_far : List A) (x : Option A) (value : A)
    → all_some xs ≡ Some so_far → x ≡ Some value → all_some (xs ++ x ∷ []) ≡ Some (so_far ++ value ∷ [])
values_more {A} xs so_far x value is one =
    values_in_parts xs (x ∷ [])
    ∙ ap (λ (all : Option (List A)). option_and_then
    (λ front. option_map (λ back. front ++ back) (all_some (x ∷ []))) all) is
    ∙ ap (λ (last : Option A). option_map (λ back. so_far ++ back) (all_some (last ∷ []))) one
