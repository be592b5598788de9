-- Lists of instructions that are made by pushes, as expressions.
use Rattle.std.proofs.Common.{◌≡◌, ℕ, zero, suc, ◌+◌, List, [], ◌∷◌, ◌++◌, refl, ap, sym, ◌∙◌, append_assoc}
use Rattle.std.proofs.Common.{append-nil, arith}
use Rattle.std.specs.Prelude.{flat_map}
use Rattle.std.specs.List.{range_with_len}
use Rattle.w4_defs.specs.declared.instruction.Instr.{Instr}
use Rattle.w4_defs.specs.Tree.{Expr, done}
use Rattle.w4_defs.specs.View.{before, expression_of}
use Rattle.wasm_write.specs.Sequences.{expression_onto}

onto_last : (is : List Instr) (i : Instr) (rest : Expr)
    → expression_onto (is ++ i ∷ []) rest ≡ expression_onto is (before i rest)
onto_last [] i rest = refl
onto_last (k ∷ is) i rest = ap (before k) (onto_last is i rest)

-- a pushed instruction stands before the rest
pub pushed : (is js : List Instr) (i : Instr) → js ≡ is ++ i ∷ [] → (rest : Expr)
    → expression_onto js rest ≡ expression_onto is (before i rest)
pushed is js i e rest = ap (λ ks. expression_onto ks rest) e ∙ onto_last is i rest

pub onto_done : (is : List Instr) → expression_onto is done ≡ expression_of is
onto_done [] = refl
onto_done (i ∷ is) = ap (before i) (onto_done is)

concatenated : {A : Type 0} (f : ℕ → List A) (a n : ℕ) (rest : List A)
    → flat_map f (range_with_len a (suc n)) ++ rest ≡ flat_map f (range_with_len a n) ++ (f (a + n) ++ rest)
concatenated f a zero rest =
    let e : a ≡ a + 0 = omega arith in
    ap (λ xs. xs ++ rest) (append-nil (f a)) ∙ ap (λ k. f k ++ rest) e
concatenated f a (suc n) rest =
    let e : a + 1 + n ≡ a + suc n = omega arith in
    append_assoc (f a) (flat_map f (range_with_len (a + 1) (suc n))) rest
    ∙ ap (λ xs. f a ++ xs)
    (concatenated f (a + 1) n rest ∙ ap (λ k. flat_map f (range_with_len (a + 1) n) ++ (f k ++ rest))
    e)
    ∙ sym (append_assoc (f a) (flat_map f (range_with_len (a + 1) n)) (f (a + suc n) ++ rest))

-- what one more of a range adds
pub flat_map_more : {A : Type 0} (f : ℕ → List A) (n : ℕ) (rest : List A)
    → flat_map f (range_with_len 0 (n + 1)) ++ rest ≡ flat_map f (range_with_len 0 n) ++ (f n ++ rest)
flat_map_more f n rest =
    let e : n + 1 ≡ suc n = omega arith in
    let k : 0 + n ≡ n = omega arith in
    ap (λ j. flat_map f (range_with_len 0 j) ++ rest) e ∙ concatenated f 0 n rest
    ∙ ap (λ j. flat_map f (range_with_len 0 n) ++ (f j ++ rest)) k
