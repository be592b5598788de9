-- Stretches of inputs, in two parts and where one input is changed, inserted or removed, or several are
-- written.
use Rattle.std.proofs.Common.{◌≡◌, ℕ, suc, ◌+◌, ◌-◌, ◌<◌, ◌≤◌, List, [], ◌∷◌, ◌++◌, length, take, drop, set}
use Rattle.std.proofs.Common.{refl}
use Rattle.std.proofs.Common.{sym, ap, ◌∙◌, arith, length-take-le, take-append-drop}
use Rattle.std.specs.List.{slice_range, insert, remove, splice}
use Rattle.std.proofs.Math.Seq.{take-add}
use Rattle.std.proofs.lemmas.List.{drop-drop, drop_at, drop-set-lt, take-set-le, take-append-le, take-take}
use Rattle.std.proofs.lemmas.Slice.{between_is}

pub slice_in_parts : {A : Type 0} (xs : List A) (a b c : ℕ) → a ≤ b → b ≤ c
    → slice_range xs a c ≡ slice_range xs a b ++ slice_range xs b c
slice_in_parts xs a b c ab bc =
    let long : c - a ≡ (b - a) + (c - b) = omega arith in
    let there : a + (b - a) ≡ b = omega arith in
    ap (λ n. take n (drop a xs)) long
    ∙ take-add (b - a) (c - b) (drop a xs)
    ∙ ap (λ rest. slice_range xs a b ++ take (c - b) rest)
    (drop-drop (b - a) a xs ∙ ap (λ n. drop n xs) there)

-- a slice is decided by what stands before its end, and by what stands after its start
same_front : {A : Type 0} (xs ys : List A) (p q : ℕ) → take q xs ≡ take q ys
    → slice_range xs p q ≡ slice_range ys p q
same_front xs ys p q e = between_is xs p q ∙ ap (drop p) e ∙ sym (between_is ys p q)

same_rest : {A : Type 0} (xs ys : List A) (p q r s : ℕ) → drop p xs ≡ drop r ys → q - p ≡ s - r
    → slice_range xs p q ≡ slice_range ys r s
same_rest xs ys p q r s e long = ap (take (q - p)) e ∙ ap (λ n. take n (drop r ys)) long

pub before_set : {A : Type 0} (xs : List A) (k p q : ℕ) (x : A) → q ≤ k
    → slice_range (set xs k x) p q ≡ slice_range xs p q
before_set xs k p q x le = same_front (set xs k x) xs p q (take-set-le q xs k x le)

pub after_set : {A : Type 0} (xs : List A) (k p q : ℕ) (x : A) → k < p
    → slice_range (set xs k x) p q ≡ slice_range xs p q
after_set xs k p q x lt = same_rest (set xs k x) xs p q p q (drop-set-lt p xs k x lt) refl

-- the front of a list with another rest
front_stays : {A : Type 0} (xs rest : List A) (k q : ℕ) → k ≤ length xs → q ≤ k
    → take q (take k xs ++ rest) ≡ take q xs
front_stays xs rest k q within le =
    take-append-le q (take k xs) rest (omega (arith, length-take-le k xs within))
    ∙ take-take q k xs le

pub before_insert : {A : Type 0} (xs : List A) (k p q : ℕ) (x : A) → k ≤ length xs → q ≤ k
    → slice_range (insert xs k x) p q ≡ slice_range xs p q
before_insert xs k p q x within le =
    same_front (insert xs k x) xs p q (front_stays xs (x ∷ drop k xs) k q within le)

pub before_remove : {A : Type 0} (xs : List A) (k p q : ℕ) → k ≤ length xs → q ≤ k
    → slice_range (remove xs k) p q ≡ slice_range xs p q
before_remove xs k p q within le =
    same_front (remove xs k) xs p q (front_stays xs (drop (suc k) xs) k q within le)

drop_past : {A : Type 0} (front rest : List A) (n more : ℕ) → length front ≡ n
    → drop (n + more) (front ++ rest) ≡ drop more rest
drop_past front rest n more long =
    sym (drop-drop more n (front ++ rest)) ∙ ap (drop more) (drop_at front rest n long)

pub after_insert : {A : Type 0} (xs : List A) (k p q : ℕ) (x : A) → k ≤ length xs → k < p
    → slice_range (insert xs k x) (p + 1) (q + 1) ≡ slice_range xs p q
after_insert xs k p q x within lt =
    let there : p + 1 ≡ k + suc (p - k) = omega arith in
    let back : k + (p - k) ≡ p = omega arith in
    same_rest (insert xs k x) xs (p + 1) (q + 1) p q
    (ap (λ n. drop n (insert xs k x)) there
    ∙ drop_past (take k xs) (x ∷ drop k xs) k (suc (p - k)) (length-take-le k xs within)
    ∙ drop-drop (p - k) k xs ∙ ap (λ n. drop n xs) back)
    (omega arith)

pub after_remove : {A : Type 0} (xs : List A) (k p q : ℕ) → k ≤ length xs → k < p → p ≤ q
    → slice_range (remove xs k) (p - 1) (q - 1) ≡ slice_range xs p q
after_remove xs k p q within lt le =
    let there : p - 1 ≡ k + (p - 1 - k) = omega arith in
    let back : suc k + (p - 1 - k) ≡ p = omega arith in
    same_rest (remove xs k) xs (p - 1) (q - 1) p q
    (ap (λ n. drop n (remove xs k)) there
    ∙ drop_past (take k xs) (drop (suc k) xs) k (p - 1 - k) (length-take-le k xs within)
    ∙ drop-drop (p - 1 - k) (suc k) xs ∙ ap (λ n. drop n xs) back)
    (omega arith)

-- inputs that are written from k on
pub before_splice : {A : Type 0} (xs : List A) (k p q : ℕ) (ys : List A) → k ≤ length xs → q ≤ k
    → slice_range (splice xs k (k + length ys) ys) p q ≡ slice_range xs p q
before_splice xs k p q ys within le =
    same_front (splice xs k (k + length ys) ys) xs p q
    (front_stays xs (ys ++ drop (k + length ys) xs) k q within le)

pub after_splice : {A : Type 0} (xs : List A) (k p q : ℕ) (ys : List A) → k ≤ length xs
    → k + length ys ≤ p → slice_range (splice xs k (k + length ys) ys) p q ≡ slice_range xs p q
after_splice xs k p q ys within le =
    let end : ℕ = k + length ys in
    let there : p ≡ k + (length ys + (p - end)) = omega (arith, le) in
    let back : end + (p - end) ≡ p = omega (arith, le) in
    same_rest (splice xs k end ys) xs p q p q
    (ap (λ n. drop n (splice xs k end ys)) there
    ∙ drop_past (take k xs) (ys ++ drop end xs) k (length ys + (p - end)) (length-take-le k xs within)
    ∙ drop_past ys (drop end xs) (length ys) (p - end) refl
    ∙ drop-drop (p - end) end xs ∙ ap (λ n. drop n xs) back)
    refl

pub nothing_spliced : {A : Type 0} (xs : List A) (k : ℕ) (ys : List A) → length ys ≤ 0
    → splice xs k (k + length ys) ys ≡ xs
nothing_spliced xs k [] none =
    let same : k + 0 ≡ k = omega arith in
    ap (λ n. take k xs ++ drop n xs) same ∙ take-append-drop k xs
nothing_spliced xs k (y ∷ ys) none = absurd (omega (arith, none))
