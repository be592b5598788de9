-- Kinds and types from the top: what is taken, what is given.
use Rattle.std.proofs.Common.{◌≡◌, Bool, true, false, cond, List, [], ◌∷◌, ◌++◌, map, Option, Some, None}
use Rattle.std.proofs.Common.{option_map, option_and_then, refl, sym, ap, ◌∙◌, subst}
use Rattle.std.proofs.lemmas.Bool.{and_parts, and_from}
use Rattle.w4_defs.specs.declared.value.ValType.{ValType}
use Rattle.w4_defs.specs.declared.value.ValType.TheVariants.{I32, I64, F32, F64}
use Rattle.w4_defs.specs.ValueTypes.{same_type, same_types}
use Rattle.w4_defs.specs.AbstractStack.{OperandType, agrees, agree, below, below_all, topmost, common_type}

pub some_and_then : {A B : Type 0} (f : A → Option B) (o : Option A) (y : B) → option_and_then f o ≡ Some y
    → (x : A) × (o ≡ Some x) × (f x ≡ Some y)
some_and_then f None y h = absurd (cc h)
some_and_then f (Some x) y h = (x, refl, h)

pub some_then : {A B : Type 0} (f : A → Option B) (o : Option A) (x : A) (y : B) → o ≡ Some x → f x ≡ Some y
    → option_and_then f o ≡ Some y
some_then f o x y e h = ap (option_and_then f) e ∙ h

pub map_some : {A B : Type 0} (f : A → B) (o : Option A) (y : B) → option_map f o ≡ Some y
    → (x : A) × (o ≡ Some x) × (f x ≡ y)
map_some f None y h = absurd (cc h)
map_some f (Some x) y h = (x, refl, cc h)

pub some_map : {A B : Type 0} (f : A → B) (o : Option A) (x : A) → o ≡ Some x → option_map f o ≡ Some (f x)
some_map f o x e = ap (option_map f) e

pub some_if_true : {A : Type 0} (b : Bool) (x y : A) → cond b (Some x) None ≡ Some y → (b ≡ true) × (x ≡ y)
some_if_true true x y h = (refl, cc h)
some_if_true false x y h = absurd (cc h)

pub some_if : {A : Type 0} (b : Bool) (o : Option A) → b ≡ true → cond b o None ≡ o
some_if b o h = ap (λ b. cond b o None) h

pub same_type_self : (t : ValType) → same_type t t ≡ true
same_type_self I32 = refl
same_type_self I64 = refl
same_type_self F32 = refl
same_type_self F64 = refl

pub same_type_is : (s t : ValType) → same_type s t ≡ true → s ≡ t
same_type_is I32 I32 h = refl
same_type_is I64 I64 h = refl
same_type_is F32 F32 h = refl
same_type_is F64 F64 h = refl
same_type_is _ _ h = absurd (cc h)

pub same_types_self : (ts : List ValType) → same_types ts ts ≡ true
same_types_self [] = refl
same_types_self (t ∷ ts) = and_from (same_type t t) (same_types ts ts) (same_type_self t) (same_types_self ts)

pub same_types_are : (ss ts : List ValType) → same_types ss ts ≡ true → ss ≡ ts
same_types_are [] [] h = refl
same_types_are (s ∷ ss) (t ∷ ts) h =
    let p = and_parts (same_type s t) (same_types ss ts) h in
    ap (λ x. x ∷ ss) (same_type_is s t p.0) ∙ ap (λ xs. t ∷ xs) (same_types_are ss ts p.1)
same_types_are [] (t ∷ ts) h = absurd (cc h)
same_types_are (s ∷ ss) [] h = absurd (cc h)

pub anything_agrees : (ts : List ValType) → agree [] true ts ≡ true
anything_agrees [] = refl
anything_agrees (t ∷ ts) = refl

pub below_agrees : (t : ValType) (unreachable : Bool) (ks rest : List OperandType) (ts : List ValType)
    → below t unreachable ks ≡ Some rest → agree rest unreachable ts ≡ true
    → agree ks unreachable (t ∷ ts) ≡ true
below_agrees t true [] rest ts h g = refl
below_agrees t false [] rest ts h g = absurd (cc h)
below_agrees t true (k ∷ ks) rest ts h g =
    let p = some_if_true (agrees k t) ks rest h in
    and_from (agrees k t) (agree ks true ts) p.0 (subst (λ xs. agree xs true ts ≡ true) (sym p.1) g)
below_agrees t false (k ∷ ks) rest ts h g =
    let p = some_if_true (agrees k t) ks rest h in
    and_from (agrees k t) (agree ks false ts) p.0 (subst (λ xs. agree xs false ts ≡ true) (sym p.1) g)

pub agrees_below : (t : ValType) (unreachable : Bool) (ks : List OperandType) (ts : List ValType)
    → agree ks unreachable (t ∷ ts) ≡ true
    → (rest : List OperandType) × (below t unreachable ks ≡ Some rest) × (agree rest unreachable ts ≡ true)
agrees_below t true [] ts h = ([], refl, anything_agrees ts)
agrees_below t false [] ts h = absurd (cc h)
agrees_below t true (k ∷ ks) ts h =
    let p = and_parts (agrees k t) (agree ks true ts) h in (ks, some_if (agrees k t) (Some ks) p.0, p.1)
agrees_below t false (k ∷ ks) ts h =
    let p = and_parts (agrees k t) (agree ks false ts) h in (ks, some_if (agrees k t) (Some ks) p.0, p.1)

pub all_below_agree : (us : List ValType) (unreachable : Bool) (ks rest : List OperandType)
    (ts : List ValType)
    → below_all us unreachable ks ≡ Some rest → agree rest unreachable ts ≡ true
    → agree ks unreachable (us ++ ts) ≡ true
all_below_agree [] unreachable ks rest ts h g = subst (λ xs. agree xs unreachable ts ≡ true) (sym (cc h)) g
all_below_agree (u ∷ us) unreachable ks rest ts h g =
    let p = some_and_then (below_all us unreachable) (below u unreachable ks) rest h in
    below_agrees u unreachable ks p.0 (us ++ ts) p.1 (all_below_agree us unreachable p.0 rest ts p.2 g)

pub agree_all_below : (us : List ValType) (unreachable : Bool) (ks : List OperandType) (ts : List ValType)
    → agree ks unreachable (us ++ ts) ≡ true
    → (rest : List OperandType) × (below_all us unreachable ks ≡ Some rest)
    × (agree rest unreachable ts ≡ true)
agree_all_below [] unreachable ks ts h = (ks, refl, h)
agree_all_below (u ∷ us) unreachable ks ts h =
    let p = agrees_below u unreachable ks (us ++ ts) h in
    let q = agree_all_below us unreachable p.0 ts p.2 in
    (q.0, some_then (below_all us unreachable) (below u unreachable ks) p.0 q.0 p.1 q.1, q.2)

pub known_agree : (us : List ValType) (unreachable : Bool) (ks : List OperandType) (ts : List ValType)
    → agree ks unreachable ts ≡ true → agree (map Some us ++ ks) unreachable (us ++ ts) ≡ true
known_agree [] unreachable ks ts h = h
known_agree (u ∷ us) unreachable ks ts h =
    and_from (same_type u u) (agree (map Some us ++ ks) unreachable (us ++ ts)) (same_type_self u)
    (known_agree us unreachable ks ts h)

pub agree_known : (us : List ValType) (unreachable : Bool) (ks : List OperandType) (ts : List ValType)
    → agree (map Some us ++ ks) unreachable ts ≡ true
    → (rest : List ValType) × (ts ≡ us ++ rest) × (agree ks unreachable rest ≡ true)
agree_known [] unreachable ks ts h = (ts, refl, h)
agree_known (u ∷ us) unreachable ks [] h = absurd (cc h)
agree_known (u ∷ us) unreachable ks (t ∷ ts) h =
    let p = and_parts (same_type u t) (agree (map Some us ++ ks) unreachable ts) h in
    let q = agree_known us unreachable ks ts p.1 in
    (q.0, ap (λ x. x ∷ ts) (sym (same_type_is u t p.0)) ∙ ap (λ xs. u ∷ xs) q.1, q.2)

-- ---- the topmost operand type

pub top_agrees : (unreachable : Bool) (ks : List OperandType) (top : OperandType × List OperandType)
    (t : ValType) (ts : List ValType)
    → topmost unreachable ks ≡ Some top → agrees top.0 t ≡ true → agree top.1 unreachable ts ≡ true
    → agree ks unreachable (t ∷ ts) ≡ true
top_agrees true [] top t ts h a g = refl
top_agrees false [] top t ts h a g = absurd (cc h)
top_agrees true (k ∷ ks) top t ts h a g =
    let e : (k, ks) ≡ top = cc h in
    and_from (agrees k t) (agree ks true ts) (subst (λ x. agrees x.0 t ≡ true) (sym e) a)
    (subst (λ x. agree x.1 true ts ≡ true) (sym e) g)
top_agrees false (k ∷ ks) top t ts h a g =
    let e : (k, ks) ≡ top = cc h in
    and_from (agrees k t) (agree ks false ts) (subst (λ x. agrees x.0 t ≡ true) (sym e) a)
    (subst (λ x. agree x.1 false ts ≡ true) (sym e) g)

pub agrees_top : (unreachable : Bool) (ks : List OperandType) (t : ValType) (ts : List ValType)
    → agree ks unreachable (t ∷ ts) ≡ true
    → (k : OperandType) × (rest : List OperandType) × (topmost unreachable ks ≡ Some (k, rest))
    × (agrees k t ≡ true)
    × (agree rest unreachable ts ≡ true)
agrees_top true [] t ts h = (None, [], refl, refl, anything_agrees ts)
agrees_top false [] t ts h = absurd (cc h)
agrees_top true (k ∷ ks) t ts h =
    let p = and_parts (agrees k t) (agree ks true ts) h in (k, ks, refl, p.0, p.1)
agrees_top false (k ∷ ks) t ts h =
    let p = and_parts (agrees k t) (agree ks false ts) h in (k, ks, refl, p.0, p.1)

-- what agrees with the common operand type agrees with both, and the other way
pub common_agrees : (j k both : OperandType) (t : ValType) → common_type j k ≡ Some both
    → agrees both t ≡ true
    → (agrees j t ≡ true) × (agrees k t ≡ true)
common_agrees None k both t h a = let e : k ≡ both = cc h in (refl, subst (λ x. agrees x t ≡ true) (sym e) a)
common_agrees (Some u) None both t h a =
    let e : Some u ≡ both = cc h in (subst (λ x. agrees x t ≡ true) (sym e) a, refl)
common_agrees (Some u) (Some v) both t h a =
    let p = some_if_true (same_type u v) (Some u) both h in
    let is : same_type u t ≡ true = subst (λ x. agrees x t ≡ true) (sym p.1) a in
    (is, subst (λ x. same_type x t ≡ true) (same_type_is u v p.0) is)

pub agrees_common : (j k : OperandType) (t : ValType) → agrees j t ≡ true → agrees k t ≡ true
    → (both : OperandType) × (common_type j k ≡ Some both) × (agrees both t ≡ true)
agrees_common None k t a b = (k, refl, b)
agrees_common (Some u) None t a b = (Some u, refl, a)
agrees_common (Some u) (Some v) t a b =
    let e : u ≡ v = same_type_is u t a ∙ sym (same_type_is v t b) in (
      Some u,
      some_if (same_type u v) (Some (Some u))
          (subst (λ x. same_type u x ≡ true) e (same_type_self u)),
      a,
    )
