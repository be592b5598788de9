-- Laws of a line that is cut: cutting early and cutting late give the same line.
use Rattle.std.proofs.Common.{◌≡◌, ℕ, zero, suc, ◌+◌, ◌≤◌, min, List, [], ◌∷◌, ◌++◌, length, take, refl, ap}
use Rattle.std.proofs.Common.{◌∙◌, sym, arith, append_assoc}
use Rattle.std.proofs.lemmas.List.{take_at, take_min, take-take}
use Rattle.std.proofs.Math.Seq.{take-append-add}
use Rattle.w4_defs.specs.Traces.{line_of}

-- what fits of a later list, after one that leaves room for k
pub fits_cut : (n : ℕ) (xs ys : List ℕ) (k : ℕ) → k + length xs ≡ n
    → xs ++ take (min k (length ys)) ys ≡ take n (xs ++ ys)
fits_cut n xs ys k h =
    let whole : length xs + k ≡ n = omega arith in
    ap (λ zs. xs ++ zs) (take_min k ys) ∙ (sym (take-append-add xs ys k) ∙ ap (λ m. take m (xs ++ ys)) whole)

take-cut : (n : ℕ) (xs ys : List ℕ) → take n (take n xs ++ ys) ≡ take n (xs ++ ys)
take-cut zero xs ys = refl
take-cut (suc n) [] ys = refl
take-cut (suc n) (x ∷ xs) ys = ap (λ zs. x ∷ zs) (take-cut n xs ys)

-- a line that is cut and goes on is the cut of all
pub cut_more : (line more rest : List ℕ)
    → line_of (line_of (line ++ more) ++ rest) ≡ line_of (line ++ (more ++ rest))
cut_more line more rest = take-cut 128 (line ++ more) rest ∙ ap line_of (append_assoc line more rest)

-- a cut line stays as it is
pub cut_kept : (line bytes : List ℕ) → line ≡ line_of bytes → line_of line ≡ line
cut_kept line bytes e = ap line_of e ∙ (take-take 128 128 bytes (omega arith) ∙ sym e)

-- nothing more comes onto a full line
pub cut_full : (line more : List ℕ) → length line ≡ 128 → line_of (line ++ more) ≡ line
cut_full line more full = take_at line more 128 full

pub take_whole : (n : ℕ) (xs : List ℕ) → length xs ≤ n → take n xs ≡ xs
take_whole zero [] le = refl
take_whole (suc n) [] le = refl
take_whole zero (x ∷ xs) le = absurd (omega (arith, le))
take_whole (suc n) (x ∷ xs) le = ap (λ (ys : List ℕ). x ∷ ys) (take_whole n xs (omega (arith, le)))
