-- The front of a line that grows.
use Rattle.std.proofs.Common.{◌≡◌, ◌≤◌, ◌<◌, ◌⊎◌, inl, inr, ◌++◌, ℕ, List, length, take, sym, ap, ◌∙◌, arith}
use Rattle.std.proofs.lemmas.Bool.{cases_lt}
use Rattle.std.proofs.lemmas.List.{take_all, take-append-le, length-take, length-take-le}

at_front : (most : ℕ) (read more : List ℕ) → (length read < most) ⊎ (most ≤ length read)
    → take most (take most read ++ more) ≡ take most (read ++ more)
at_front most read more (inl lt) =
    ap (λ (xs : List ℕ). take most (xs ++ more)) (take_all most read (omega arith))
at_front most read more (inr le) =
    let len = length-take-le most read le in
    take-append-le most (take most read) more (omega arith)
    ∙ take_all most (take most read) (omega arith)
    ∙ sym (take-append-le most read more le)

pub kept_front : (most : ℕ) (read more : List ℕ)
    → take most (take most read ++ more) ≡ take most (read ++ more)
kept_front most read more = at_front most read more (cases_lt (length read) most)

pub take_within : (most : ℕ) (xs : List ℕ) → length (take most xs) ≤ most
take_within most xs = let len = length-take most xs in omega arith
