-- Exports with names apart, one more after the others.
use Rattle.std.proofs.Common.{◌≡◌, ◌≢◌, ℕ, ◌+◌, ◌<◌, ◌≤◌, List, [], ◌∷◌, length, take, get_or, Bool, true}
use Rattle.std.proofs.Common.{false, Option, refl, sym, subst, ◌∙◌, arith}
use Rattle.std.specs.Prelude.{All, AllPairs, IfSome, slice_get}
use Rattle.std.specs.Bool.{Decides}
use Rattle.std.proofs.lemmas.Bool.{false≢true}
use Rattle.std.proofs.lemmas.List.{take_more, take_all, get_or-take, length-take-le}
use Rattle.std.proofs.lemmas.List.Elements.{All-from_get_or}
use Rattle.std.proofs.lemmas.List.Quantifiers.{all_pairs_push}
use Rattle.std.proofs.lemmas.Option.{slice_get-get_or}
use Rattle.w4_defs.specs.Module.{Exported}

abbrev pub Apart : Exported → Exported → Type 0
Apart e f = e.name ≢ f.name

abbrev pub IsTested : List Exported → ℕ → Bool → Type 0
IsTested xs i r = IfSome (slice_get xs i) (λ f. Decides r (All (λ e. Apart e f) (take i xs)))

tested_is_apart : (xs : List Exported) (i : ℕ) (r : Bool) (d : Exported) → i < length xs → IsTested xs i r
    → Decides r (All (λ e. Apart e (get_or xs i d)) (take i xs))
tested_is_apart xs i r d h t =
    subst (λ (o : Option Exported). IfSome o (λ f. Decides r (All (λ e. Apart e f) (take i xs))))
    (slice_get-get_or xs i d h) t

before_it : (xs : List Exported) (i : ℕ) (d : Exported) → i < length xs → AllPairs Apart xs
    → All (λ e. Apart e (get_or xs i d)) (take i xs)
before_it xs i d h pairs =
    All-from_get_or (λ e. Apart e (get_or xs i d)) (take i xs) d
    (λ k below. let small : k < i = omega (arith, length-take-le i xs (omega arith)) in
    subst (λ (e : Exported). Apart e (get_or xs i d)) (sym (get_or-take i xs k d small))
    (pairs k i d small h))

pub apart_fails : (xs : List Exported) (i : ℕ) (r : Bool) → i < length xs → IsTested xs i r → r ≡ false
    → Decides false (AllPairs Apart xs)
apart_fails [] i r h t e = absurd (omega arith)
apart_fails (x ∷ xs) i r h t e = (
  λ f. absurd (false≢true f),
  λ pairs. sym e ∙ (tested_is_apart (x ∷ xs) i r x h t).1 (before_it (x ∷ xs) i x h pairs),
)

pub apart_more : (xs : List Exported) (i : ℕ) (r : Bool) → i < length xs → IsTested xs i r → r ≡ true
    → AllPairs Apart (take i xs) → AllPairs Apart (take (i + 1) xs)
apart_more [] i r h t e pairs = absurd (omega arith)
apart_more (x ∷ xs) i r h t e pairs =
    subst (λ (ys : List Exported). AllPairs Apart ys) (sym (take_more (x ∷ xs) i x h))
    (all_pairs_push Apart (take i (x ∷ xs)) (get_or (x ∷ xs) i x) pairs
    ((tested_is_apart (x ∷ xs) i r x h t).0 e))

pub apart_end : (xs : List Exported) (i : ℕ) → length xs ≤ i → AllPairs Apart (take i xs)
    → Decides true (AllPairs Apart xs)
apart_end xs i h pairs =
    (λ _. subst (λ (ys : List Exported). AllPairs Apart ys) (take_all i xs h) pairs, λ _. refl)
