-- One more item of a list that is mapped.
use Rattle.std.proofs.Common.{◌≡◌, ℕ, zero, suc, ◌+◌, List, [], ◌∷◌, ◌++◌, map, take, Some, sym, ◌∙◌, ap}
use Rattle.std.proofs.Common.{arith}
use Rattle.std.specs.Prelude.{slice_get, option_map}
use Rattle.std.proofs.lemmas.Option.{same_Some}

map_step : {X Y : Type 0} (f : X → Y) (xs : List X) (i : ℕ) (y : Y) → option_map f (slice_get xs i) ≡ Some y
    → map f (take (suc i) xs) ≡ map f (take i xs) ++ y ∷ []
map_step f [] i y e = absurd cc
map_step f (x ∷ xs) zero y e = ap (λ z. z ∷ []) (same_Some _ _ e)
map_step f (x ∷ xs) (suc i) y e = ap (λ ys. f x ∷ ys) (map_step f xs i y e)

-- what a test or a reading gives of the item at a position
pub map_more : {X Y : Type 0} (f : X → Y) (xs : List X) (i : ℕ) (y : Y) (ys zs : List Y)
    → option_map f (slice_get xs i) ≡ Some y → ys ≡ map f (take i xs) → zs ≡ ys ++ y ∷ []
    → zs ≡ map f (take (i + 1) xs)
map_more f xs i y ys zs e so_far next =
    next ∙ ap (λ us. us ++ y ∷ []) so_far ∙ sym (map_step f xs i y e)
    ∙ ap (λ n. map f (take n xs)) {x = suc i} (omega arith)
