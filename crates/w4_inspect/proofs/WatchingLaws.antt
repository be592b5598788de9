-- Values and pages that are added one place after another.
use Rattle.std.proofs.Common.{◌≡◌, ℕ, suc, ◌+◌, ◌-◌, ◌≤◌, List, [], ◌∷◌, ◌++◌, map, Option, Some, None}
use Rattle.std.proofs.Common.{option_map, option_and_then, refl, ap, sym, ◌∙◌, arith}
use Rattle.std.specs.List.{range_with_len}
use Rattle.std.proofs.lemmas.List.FromFn.{map-range_with_len_more}
use Rattle.w4_defs.specs.AllThere.{all_some, joined}
use Rattle.w4_defs.proofs.AllThereLaws.{joined_assoc, values_in_parts, values_more}

-- the values at the places after A, up to P
abbrev after : (ℕ → Option ℕ) → ℕ → ℕ → List (Option ℕ)
after f a p = map f (range_with_len (a + 1) (p - a))

-- the value of one place more
pub one_more_value : (f : ℕ → Option ℕ) (before so_far new : List ℕ) (x a p : ℕ) → a ≤ p
    → joined (Some before) (all_some (map f (range_with_len (a + 1) (p - a)))) ≡ Some so_far
    → new ≡ so_far ++ x ∷ [] → f (p + 1) ≡ Some x
    → joined (Some before) (all_some (map f (range_with_len (a + 1) (p + 1 - a)))) ≡ Some new
one_more_value f before so_far new x a p le is pushed value =
    let count : p + 1 - a ≡ p - a + 1 = omega (arith, le) in
    ap (λ n. joined (Some before) (all_some (map f (range_with_len (a + 1) n)))) count
    ∙ ap (λ more. joined (Some before) (all_some more))
    (map-range_with_len_more f (a + 1) (p - a) (p + 1) (omega (arith, le)))
    ∙ ap (joined (Some before)) (values_in_parts (after f a p) (f (p + 1) ∷ []))
    ∙ sym (joined_assoc (Some before) (all_some (after f a p)) (all_some (f (p + 1) ∷ [])))
    ∙ (λ k. joined (is k) (all_some (value k ∷ [])))
    ∙ ap Some (sym pushed)

-- the first value, and those after it by a function that is the same
pub first_and_more : (f g : ℕ → Option ℕ) (none one new : List ℕ) (x a b : ℕ) → a ≤ b → g ≡ f
    → none ≡ [] → one ≡ none ++ x ∷ [] → f a ≡ Some x
    → joined (Some one) (all_some (map g (range_with_len (a + 1) (b - a)))) ≡ Some new
    → all_some (map f (range_with_len a (b + 1 - a))) ≡ Some new
first_and_more f g none one new x a b le same empty pushed value added =
    let count : b + 1 - a ≡ suc (b - a) = omega (arith, le) in
    ap (λ n. all_some (map f (range_with_len a n))) count
    ∙ ap (λ (first : Option ℕ). all_some (first ∷ after f a b)) value
    ∙ ap (λ xs. joined (Some xs) (all_some (after f a b))) (sym (pushed ∙ ap (λ xs. xs ++ x ∷ []) empty))
    ∙ ap (λ h. joined (Some one) (all_some (after h a b))) (sym same)
    ∙ added

-- the page of one place more
pub one_more_page : (f : ℕ → Option (List ℕ)) (so_far new : List (List ℕ)) (page : List ℕ) (a p : ℕ) → a ≤ p
    → all_some (map f (range_with_len a (p + 1 - a))) ≡ Some so_far
    → new ≡ so_far ++ page ∷ [] → f (p + 1) ≡ Some page
    → all_some (map f (range_with_len a (p + 1 + 1 - a))) ≡ Some new
one_more_page f so_far new page a p le is pushed read =
    let count : p + 1 + 1 - a ≡ p + 1 - a + 1 = omega (arith, le) in
    ap (λ n. all_some (map f (range_with_len a n))) count
    ∙ ap all_some (map-range_with_len_more f a (p + 1 - a) (p + 1) (omega (arith, le)))
    ∙ values_more (map f (range_with_len a (p + 1 - a))) so_far (f (p + 1)) page is read
    ∙ ap Some (sym pushed)

-- ---- a value in each page

mapped_first : {A B : Type 0} (g : A → B) (x : Option A) (rest : Option (List A)) →
    option_and_then (λ value. option_map (λ values. value ∷ values) (option_map (map g) rest))
    (option_map g x)
    ≡ option_map (map g) (option_and_then (λ value. option_map (λ values. value ∷ values) rest) x)
mapped_first g None rest = refl
mapped_first g (Some x) None = refl
mapped_first g (Some x) (Some rest) = refl

mapped_all : {A B : Type 0} (g : A → B) (f : ℕ → Option A) (places : List ℕ)
    → all_some (map (λ p. option_map g (f p)) places) ≡ option_map (map g) (all_some (map f places))
mapped_all g f [] = refl
mapped_all {A} {B} g f (p ∷ places) =
    ap (λ (rest : Option (List B)). option_and_then (λ value. option_map (λ values. value ∷ values) rest)
    (option_map g (f p))) (mapped_all g f places)
    ∙ mapped_first g (f p) (all_some (map f places))

pub value_of_each : (g : List ℕ → ℕ) (f : ℕ → Option (List ℕ)) (places : List ℕ) (pages : List (List ℕ))
    → all_some (map f places) ≡ Some pages
    → all_some (map (λ p. option_map g (f p)) places) ≡ Some (map g pages)
value_of_each g f places pages are = mapped_all g f places ∙ ap (option_map (map g)) are
