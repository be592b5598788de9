-- A tree as a list that gives it back, by which proofs tell trees apart: its instructions from the
-- first on, each followed by the lists inside it and the rest.
use Rattle.std.specs.Prelude.{◌≡◌, refl, ℕ, zero, suc, List, [], ◌∷◌, ◌++◌, ◌⊎◌, Option, None}
use Rattle.std.specs.Coded.{Coded, code_by, coded_option, coded_list, coded_ℕ, coded×, coded⊎}
use Rattle.std.proofs.Common.{inl, inr, sym, ◌∙◌, ap, append_assoc, append-nil}
use Rattle.w4_defs.specs.declared.value.ValType.{ValType}
use Rattle.w4_defs.specs.contracts.value.ValType as value_type
use Rattle.w4_defs.specs.contracts.operation.Op as operation
use Rattle.w4_defs.specs.Tree.{Mark, Expr, done, plain, block, loop, if_then, if_else}

-- what an instruction is that holds lists, and the end of a list
pub data Head : Type 0 where
  ends : Head
  blocks : Head
  loops : Head
  chooses : Head
  parts : Head

abbrev pub head_number : Head → ℕ
head_number ends = 0
head_number blocks = 1
head_number loops = 2
head_number chooses = 3
head_number parts = 4

abbrev pub head_of : ℕ → Head
head_of zero = ends
head_of (suc zero) = blocks
head_of (suc (suc zero)) = loops
head_of (suc (suc (suc zero))) = chooses
head_of (suc (suc (suc (suc n)))) = parts

pub head_of-head_number : (h : Head) → head_of (head_number h) ≡ h
head_of-head_number ends = refl
head_of-head_number blocks = refl
head_of-head_number loops = refl
head_of-head_number chooses = refl
head_of-head_number parts = refl

abbrev pub Sign : Type 0
Sign = Mark ⊎ (Head × Option ValType)

abbrev pub signs : Expr → List Sign
signs done = inr (ends, None) ∷ []
signs (plain m rest) = inl m ∷ signs rest
signs (block r inner rest) = inr (blocks, r) ∷ signs inner ++ signs rest
signs (loop r inner rest) = inr (loops, r) ∷ signs inner ++ signs rest
signs (if_then r taken rest) = inr (chooses, r) ∷ signs taken ++ signs rest
signs (if_else r taken other rest) = inr (parts, r) ∷ signs taken ++ signs other ++ signs rest

-- the first tree of a list, and the others
abbrev pub first : List Expr → Expr
first [] = done
first (e ∷ es) = e

abbrev pub others : List Expr → List Expr
others [] = []
others (e ∷ es) = es

abbrev pub rebuilt : Head → Option ValType → List Expr → List Expr
rebuilt ends r es = done ∷ es
rebuilt blocks r es = block r (first es) (first (others es)) ∷ others (others es)
rebuilt loops r es = loop r (first es) (first (others es)) ∷ others (others es)
rebuilt chooses r es = if_then r (first es) (first (others es)) ∷ others (others es)
rebuilt parts r es =
    if_else r (first es) (first (others es)) (first (others (others es))) ∷ others (others (others es))

abbrev pub trees : List Sign → List Expr
trees [] = []
trees (inl m ∷ ss) = plain m (first (trees ss)) ∷ others (trees ss)
trees (inr s ∷ ss) = rebuilt s.0 s.1 (trees ss)

pub trees-signs : (e : Expr) (ss : List Sign) → trees (signs e ++ ss) ≡ e ∷ trees ss
trees-signs done ss = refl
trees-signs (plain m rest) ss = ap (λ es. plain m (first es) ∷ others es) (trees-signs rest ss)
trees-signs (block r inner rest) ss =
    ap (rebuilt blocks r)
    (ap trees (append_assoc (signs inner) (signs rest) ss) ∙ trees-signs inner (signs rest ++ ss)
    ∙ ap (λ es. inner ∷ es) (trees-signs rest ss))
trees-signs (loop r inner rest) ss =
    ap (rebuilt loops r)
    (ap trees (append_assoc (signs inner) (signs rest) ss) ∙ trees-signs inner (signs rest ++ ss)
    ∙ ap (λ es. inner ∷ es) (trees-signs rest ss))
trees-signs (if_then r taken rest) ss =
    ap (rebuilt chooses r)
    (ap trees (append_assoc (signs taken) (signs rest) ss) ∙ trees-signs taken (signs rest ++ ss)
    ∙ ap (λ es. taken ∷ es) (trees-signs rest ss))
trees-signs (if_else r taken other rest) ss =
    ap
    (rebuilt parts r)
    (ap trees (append_assoc (signs taken ++ signs other) (signs rest) ss
    ∙ append_assoc (signs taken) (signs other) (signs rest ++ ss))
    ∙ trees-signs taken (signs other ++ (signs rest ++ ss))
    ∙ ap (λ es. taken ∷ es)
    (trees-signs other (signs rest ++ ss) ∙ ap (λ es. other ∷ es) (trees-signs rest ss)))

abbrev pub tree : List Sign → Expr
tree ss = first (trees ss)

pub tree-signs : (e : Expr) → tree (signs e) ≡ e
tree-signs e = ap tree (sym (append-nil (signs e))) ∙ ap first (trees-signs e [])

abbrev pub head_code : Coded Head
head_code = code_by ℕ coded_ℕ head_number head_of head_of-head_number

abbrev pub sign_code : Coded Sign
sign_code =
    coded⊎ (coded× operation.the_row.coded (coded_list coded_ℕ))
    (coded× head_code (coded_option value_type.the_row.coded))

abbrev pub tree_code : Coded Expr
tree_code = code_by (List Sign) (coded_list sign_code) signs tree tree-signs
