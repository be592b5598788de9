-- Types that are taken and given, from the bottom to the top, on abstract stacks.
use Rattle.std.proofs.Common.{◌≡◌, true, List, [], ◌∷◌, ◌++◌, map, reverse, Some, refl, sym, ap, ◌∙◌, subst}
use Rattle.std.proofs.lemmas.List.{reverse-append, reverse-reverse}
use Rattle.w4_defs.specs.declared.value.ValType.{ValType}
use Rattle.w4_defs.specs.Typing.{AreInt}
use Rattle.w4_defs.specs.AbstractStack.{AbstractStack, agree, stands, below_all, with_operands, taken, given}
use Rattle.wasm_valid.specs.AbstractStackLaw.{AreIntOperands}
use Rattle.wasm_valid.proofs.OperandTypeLaws.{map_some, some_map, all_below_agree, agree_all_below}
use Rattle.wasm_valid.proofs.OperandTypeLaws.{known_agree, agree_known}
use Rattle.wasm_valid.proofs.IntLaws.{reversed_int, joined_kinds, known_int, all_below_int, some_types}

map_joined : {A B : Type 0} (f : A → B) (xs ys : List A) → map f (xs ++ ys) ≡ map f xs ++ map f ys
map_joined f [] ys = refl
map_joined f (x ∷ xs) ys = ap (λ zs. f x ∷ zs) (map_joined f xs ys)

map_reversed : {A B : Type 0} (f : A → B) (xs : List A) → reverse (map f xs) ≡ map f (reverse xs)
map_reversed f [] = refl
map_reversed f (x ∷ xs) =
    reverse-append (f x ∷ []) (map f xs) ∙ ap (λ zs. zs ++ f x ∷ []) (map_reversed f xs)
    ∙ sym (map_joined f (reverse xs) (x ∷ [])) ∙ ap (map f) (sym (reverse-append (x ∷ []) xs))

-- a list that is cut from the top
pub uncut : (ts us rest : List ValType) → reverse ts ≡ reverse us ++ rest → ts ≡ reverse rest ++ us
uncut ts us rest h =
    sym (reverse-reverse ts) ∙ ap reverse h ∙ reverse-append (reverse us) rest
    ∙ ap (λ xs. reverse rest ++ xs) (reverse-reverse us)

pub taken_stands : (us : List ValType) (s below : AbstractStack) (ts : List ValType) → taken us s ≡ Some below
    → stands below ts ≡ true → stands s (ts ++ us) ≡ true
taken_stands us s below ts h g =
    let p = map_some (with_operands s) (below_all (reverse us) s.unreachable s.operands) below h in
    let there : agree p.0 s.unreachable (reverse ts) ≡ true = subst (λ x. stands x ts ≡ true) (sym p.2) g in
    subst (λ xs. agree s.operands s.unreachable xs ≡ true) (sym (reverse-append ts us))
    (all_below_agree (reverse us) s.unreachable s.operands p.0 (reverse ts) p.1 there)

pub stands_taken : (us : List ValType) (s : AbstractStack) (ts : List ValType) → stands s (ts ++ us) ≡ true
    → (below : AbstractStack) × (taken us s ≡ Some below) × (stands below ts ≡ true)
stands_taken us s ts h =
    let p =
    agree_all_below (reverse us) s.unreachable s.operands (reverse ts)
    (subst (λ xs. agree s.operands s.unreachable xs ≡ true) (reverse-append ts us) h) in (
      with_operands s p.0,
      some_map (with_operands s) (below_all (reverse us) s.unreachable s.operands) p.0
          p.1,
      p.2,
    )

pub given_stands : (us : List ValType) (s : AbstractStack) (ts : List ValType) → stands s ts ≡ true
    → stands (given us s) (ts ++ us) ≡ true
given_stands us s ts h =
    subst (λ ks. agree (ks ++ s.operands) s.unreachable (reverse (ts ++ us)) ≡ true)
    (sym (map_reversed Some us))
    (subst (λ xs. agree (map Some (reverse us) ++ s.operands) s.unreachable xs ≡ true)
    (sym (reverse-append ts us))
    (known_agree (reverse us) s.unreachable s.operands (reverse ts) h))

pub stands_given : (us : List ValType) (s : AbstractStack) (outs : List ValType)
    → stands (given us s) outs ≡ true
    → (ts : List ValType) × (outs ≡ ts ++ us) × (stands s ts ≡ true)
stands_given us s outs h =
    let p =
    agree_known (reverse us) s.unreachable s.operands (reverse outs)
    (subst (λ ks. agree (ks ++ s.operands) s.unreachable (reverse outs) ≡ true) (map_reversed Some us) h) in (
      reverse p.0,
      uncut outs us p.0 p.1,
      subst (λ xs. agree s.operands s.unreachable xs ≡ true) (sym (reverse-reverse p.0)) p.2,
    )

pub taken_int : (us : List ValType) (s below : AbstractStack) → AreIntOperands s.operands
    → taken us s ≡ Some below
    → AreIntOperands below.operands
taken_int us s below i h =
    let p = map_some (with_operands s) (below_all (reverse us) s.unreachable s.operands) below h in
    subst (λ x. AreIntOperands x.operands) p.2 (all_below_int (reverse us) s.unreachable s.operands p.0 i p.1)

pub given_int : (us : List ValType) (s : AbstractStack) → AreInt us → AreIntOperands s.operands
    → AreIntOperands (given us s).operands
given_int us s h i =
    joined_kinds (reverse (map Some us)) s.operands
    (subst AreIntOperands (sym (map_reversed Some us)) (known_int (reverse us) (reversed_int us h))) i

-- some int types for which an abstract stack stands
pub some_ints : (s : AbstractStack) → AreIntOperands s.operands → (ts : List ValType) × AreInt ts
    × (stands s ts ≡ true)
some_ints s i =
    let p = some_types s.operands s.unreachable i in (
      reverse p.0,
      reversed_int p.0 p.1,
      subst (λ xs. agree s.operands s.unreachable xs ≡ true) (sym (reverse-reverse p.0)) p.2,
    )
