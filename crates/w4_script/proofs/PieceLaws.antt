-- The first piece of a text, and those after it.
use Rattle.std.proofs.Common.{◌≡◌, ℕ, suc, ltb, subst, ◌+◌, ◌<◌, ◌≤◌, true, false, cond, Bool, not, List, []}
use Rattle.std.proofs.Common.{◌∷◌, take, drop, refl, ap, ◌∙◌, ◌==◌, length, arith, Some, None}
use Rattle.std.proofs.lemmas.Bool.{ltb-false}
use Rattle.std.proofs.lemmas.List.{take_all, drop_all}
use Rattle.std.specs.List.{position, position_or_len}
use Rattle.w4_defs.specs.Lines.{onto_first, pieces}

-- how many bytes stand before the first mark
abbrev pub before_mark : ℕ → List ℕ → ℕ
before_mark mark bytes = position_or_len (λ b. b == mark) bytes

one_more : (mark b n m : ℕ) (bytes : List ℕ) → m ≡ suc n →
    (b ∷ take n bytes) ∷ pieces mark (drop (n + 1) bytes) ≡ take m (b ∷ bytes) ∷ pieces mark
    (drop (m + 1) (b ∷ bytes))
one_more mark b n m bytes e = let after : m + 1 ≡ suc (n + 1) = omega arith in rw (after, e) refl

-- the first piece ends before the first mark, or with the bytes
pub first_piece_at : (mark b : ℕ) (bytes : List ℕ) →
    pieces mark (b ∷ bytes)
    ≡ take (before_mark mark (b ∷ bytes)) (b ∷ bytes) ∷ pieces mark
    (drop (before_mark mark (b ∷ bytes) + 1) (b ∷ bytes))
first_piece_at mark b [] = elim (b == mark) as
    (λ t. cond t ([] ∷ []) ((b ∷ []) ∷ [])
    ≡ take (cond (not t) 1 0) (b ∷ []) ∷ pieces mark (drop (cond (not t) 1 0 + 1) (b ∷ []))) [
      | true ↦ refl
      | false ↦ refl
    ]
first_piece_at mark b (next ∷ bytes) =
    let rest : List ℕ = next ∷ bytes in
    let n = before_mark mark rest in
    let more : 1 + n ≡ suc n = omega arith in
    elim (b == mark) as
    (λ t. cond t ([] ∷ pieces mark rest) (onto_first b (pieces mark rest))
    ≡ take (cond (not t) (1 + n) 0) (b ∷ rest) ∷ pieces mark (drop (cond (not t) (1 + n) 0 + 1) (b ∷ rest))) [
      | true ↦ refl
      | false ↦ ap (onto_first b) (first_piece_at mark next bytes) ∙ one_more mark b n (1 + n) rest more
    ]

place_is : (found : Bool) (n at : ℕ) → cond found (Some n) None ≡ Some at → n ≡ at
place_is true n at e = cc
place_is false n at e = absurd cc

no_place : (found : Bool) (n : ℕ) → cond found (Some n) None ≡ None → found ≡ false
no_place true n e = absurd cc
no_place false n e = refl

-- the same of a place that was looked for, where there is a mark and where there is none
pub piece_at_mark : (mark : ℕ) (bytes : List ℕ) (at : ℕ) → position (λ b. b == mark) bytes ≡ Some at →
    pieces mark bytes ≡ take at bytes ∷ pieces mark (drop (at + 1) bytes)
piece_at_mark mark [] at found = absurd cc
piece_at_mark mark (b ∷ bytes) at found =
    let all : List ℕ = b ∷ bytes in
    let same = place_is (ltb (before_mark mark all) (length all)) (before_mark mark all) at found in
    subst (λ n. pieces mark all ≡ take n all ∷ pieces mark (drop (n + 1) all)) same
    (first_piece_at mark b bytes)

pub piece_to_end : (mark : ℕ) (bytes : List ℕ) → 0 < length bytes → position (λ b. b == mark) bytes ≡ None →
    pieces mark bytes ≡ bytes ∷ []
piece_to_end mark [] some none = absurd (omega arith)
piece_to_end mark (b ∷ bytes) some none =
    let all : List ℕ = b ∷ bytes in
    let n = before_mark mark all in
    let end : length all ≤ n = ltb-false n (length all) (no_place (ltb n (length all)) n none) in
    let past : length all ≤ n + 1 = omega arith in
    first_piece_at mark b bytes ∙ rw (take_all n all end, drop_all (n + 1) all past) refl
