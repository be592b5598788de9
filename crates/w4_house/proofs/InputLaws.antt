-- The first line of some bytes ends before their first byte 10, or with the last byte.
use Rattle.std.proofs.Common.{◌≡◌, ◌≢◌, ℕ, ◌+◌, ◌-◌, ◌<◌, ◌≤◌, ◌==◌, Bool, true, false, cond, not, nat_lt}
use Rattle.std.proofs.Common.{List, [], ◌∷◌, ◌++◌, length, take, drop, get_or, Some, None, All, inl, inr}
use Rattle.std.proofs.Common.{refl, sym, subst, ap, ap₂, ◌∙◌, append_assoc, append-nil, arith}
use Rattle.std.specs.List.{position, position_or_len}
use Rattle.std.proofs.lemmas.Bool.{eq-eqb, eqb-true, ltb-false}
use Rattle.std.proofs.Math.Seq.{drop-append_seam}
use Rattle.std.proofs.lemmas.List.{take-append-drop, length-append, drop_more, get_or-take, length-take}
use Rattle.std.proofs.lemmas.List.Quantifiers.{position-Some}
use Rattle.std.proofs.lemmas.List.Sums.{prefix_len_passes}
use Rattle.w4_house.specs.Lines.{GivesLine}

differ : (test : Bool) → test ≡ false → test ≡ true → ⊥
differ test fails passes = cc

not_ten : (byte : ℕ) → (byte == 10) ≡ false → byte ≢ 10
not_ten byte fails is = differ (byte == 10) fails (eq-eqb byte 10 is)

no_place : (found : Bool) (at : ℕ) → cond found (Some at) None ≡ None → found ≡ false
no_place true at none = absurd cc
no_place false at none = refl

fails : (test : Bool) → not test ≡ true → test ≡ false
fails true passes = absurd cc
fails false passes = refl

-- Where no byte passes a test, none does at any place.
never_passes : (test : ℕ → Bool) (bytes : List ℕ) → position test bytes ≡ None → (k d : ℕ)
    → k < length bytes → test (get_or bytes k d) ≡ false
never_passes test bytes none k d within =
    let at = position_or_len test bytes in
    let past : length bytes ≤ at =
    ltb-false at (length bytes) (no_place (nat_lt at (length bytes)) at none) in
    fails (test (get_or bytes k d))
    (prefix_len_passes (λ byte. not (test byte)) bytes k d (omega arith))

before_end : (bytes : List ℕ) (at : ℕ) → position (λ byte. byte == 10) bytes ≡ Some at
    → All (λ byte. byte ≢ 10) (take at bytes)
before_end bytes at found k d within is =
    let len = length-take at bytes in
    let below : k < at = omega arith in
    let place = position-Some (λ byte. byte == 10) bytes at d found in
    not_ten (get_or bytes k d) (place.2 k below) (sym (get_or-take at bytes k d below) ∙ is)

at_end : (bytes : List ℕ) (at : ℕ) → position (λ byte. byte == 10) bytes ≡ Some at
    → bytes ≡ (take at bytes ++ 10 ∷ []) ++ drop (at + 1) bytes
at_end bytes at found =
    let place = position-Some (λ byte. byte == 10) bytes at 0 found in
    sym (take-append-drop at bytes)
    ∙ ap (λ rest. take at bytes ++ rest) (drop_more bytes at 0 place.0
    ∙ ap (λ byte. byte ∷ drop (at + 1) bytes) (eqb-true (get_or bytes at 0) 10 place.1))
    ∙ sym (append_assoc (take at bytes) (10 ∷ []) (drop (at + 1) bytes))

-- A line that a byte 10 ends.
pub ended_line : (most at : ℕ) (bytes front rest : List ℕ) → position (λ byte. byte == 10) bytes ≡ Some at
    → front ≡ take most (take at bytes) → rest ≡ drop (at + 1) bytes
    → GivesLine most (Some bytes) (Some rest) (Some front)
ended_line most at bytes front rest found is_front is_rest = (
  take at bytes,
  is_front,
  (
    before_end bytes at found,
    inl (at_end bytes at found ∙ ap (λ more. (take at bytes ++ 10 ∷ []) ++ more) (sym is_rest)),
  ),
)

-- A last line that lacks it.
pub last_line : (most : ℕ) (bytes front : List ℕ) → position (λ byte. byte == 10) bytes ≡ None
    → bytes ≢ [] → front ≡ take most bytes → GivesLine most (Some bytes) (Some []) (Some front)
last_line most bytes front none some is_front = (
  bytes,
  is_front,
  (
    λ k d within is.
        not_ten (get_or bytes k d) (never_passes (λ byte. byte == 10) bytes none k d within) is,
    inr (some, sym (append-nil bytes), refl),
  ),
)

-- What is left of an input behind some of what was left, is left of all of it.
left_behind : (passed : ℕ) (input before rest : List ℕ) → drop passed input ≡ before ++ rest
    → rest ≡ drop (length input - length rest) input
left_behind passed input before rest is =
    let front = take passed input ++ before in
    let whole : front ++ rest ≡ input = append_assoc (take passed input) before rest
    ∙ ap (λ more. take passed input ++ more) (sym is) ∙ take-append-drop passed input in
    let long = length-append front rest in
    let size = ap length whole in
    let at : length front ≡ length input - length rest = omega arith in
    sym (drop-append_seam front rest) ∙ ap₂ (λ n xs. drop n xs) at whole

line_left : (most passed : ℕ) (input front rest : List ℕ)
    → GivesLine most (Some (drop passed input)) (Some rest) (Some front)
    → GivesLine most (Some (drop passed input)) (Some (drop (length input - length rest) input)) (Some front)
line_left most passed input front rest (line, is_front, (before, inl is)) =
    let now = left_behind passed input (line ++ 10 ∷ []) rest is in
    (line, is_front, (before, inl (is ∙ ap (λ more. (line ++ 10 ∷ []) ++ more) now)))
line_left most passed input front rest (line, is_front, (before, inr (some, is, end))) =
    let now = left_behind passed input line rest is in
    (line, is_front, (before, inr (some, is ∙ ap (λ more. line ++ more) now, sym now ∙ end)))

-- A line that is given by what was left, is given by the whole input of which this was left.
pub line_of_input : (most passed size : ℕ) (input left front line rest : List ℕ) → left ≡ drop passed input
    → size ≡ length input → line ≡ front → GivesLine most (Some left) (Some rest) (Some front)
    → GivesLine most (Some (drop passed input)) (Some (drop (size - length rest) input)) (Some line)
line_of_input most passed size input left front line rest is_left is_size is_line given =
    subst (λ n. GivesLine most (Some (drop passed input)) (Some (drop (n - length rest) input)) (Some line))
    (sym is_size)
    (line_left most passed input line rest
    (subst (λ bytes. GivesLine most (Some (drop passed input)) (Some rest) (Some bytes)) (sym is_line)
    (subst (λ bytes. GivesLine most (Some bytes) (Some rest) (Some front)) is_left given)))

pub not_empty : (bytes : List ℕ) → false ≡ (length bytes == 0) → bytes ≢ []
not_empty [] fails is = absurd cc
not_empty (byte ∷ bytes) fails is = absurd cc
