-- One instruction: what its step of the abstract stack says of its typing.
use Rattle.std.proofs.Common.{◌≡◌, ℕ, ◌<◌, Bool, true, cond, length, List, [], ◌∷◌, ◌++◌, reverse, Option}
use Rattle.std.proofs.Common.{Some, None, option_map, option_and_then, refl, sym, ap, ◌∙◌, subst, arith}
use Rattle.std.specs.Prelude.{slice_get}
use Rattle.std.specs.List.{list_all}
use Rattle.std.proofs.lemmas.Bool.{and_parts, and_from}
use Rattle.std.proofs.lemmas.List.{reverse-append, reverse-reverse, append-nil, append_assoc}
use Rattle.w4_defs.specs.declared.value.ValType.{ValType}
use Rattle.w4_defs.specs.declared.value.ValType.TheVariants.{I32}
use Rattle.w4_defs.specs.declared.operation.Op.{Op}
use Rattle.w4_defs.specs.declared.operation.Op.TheVariants as op
use Rattle.w4_defs.specs.OperandTypes.{StackType}
use Rattle.w4_defs.specs.Typing.{Context, IsInt, AreInt, AreLabels, Leads, only_type}
use Rattle.w4_defs.specs.AbstractStack.{OperandType, AbstractStack, agrees, agree, anything, stands}
use Rattle.w4_defs.specs.AbstractStack.{with_operands, taken, given, passed, topmost, common_type, dropped}
use Rattle.w4_defs.specs.AbstractStack.{select_with, selected, after_branch, is_label, common_label, step}
use Rattle.wasm_valid.specs.AbstractStackLaw.{HasNoFloat, AreIntOperands}
use Rattle.wasm_valid.proofs.OperandTypeLaws.{some_and_then, some_then, map_some, some_map, some_if_true}
use Rattle.wasm_valid.proofs.OperandTypeLaws.{some_if, same_types_are, same_types_self, anything_agrees}
use Rattle.wasm_valid.proofs.OperandTypeLaws.{top_agrees, agrees_top, common_agrees, agrees_common}
use Rattle.wasm_valid.proofs.IntLaws.{joined_int, left_int, right_int, top_int, common_int, some_type}
use Rattle.wasm_valid.proofs.IntLaws.{stack_type_int, stack_type_ints}
use Rattle.wasm_valid.proofs.NoneLaws.{all_at}
use Rattle.wasm_valid.proofs.TakenLaws.{taken_stands, stands_taken, given_stands, stands_given, taken_int}
use Rattle.wasm_valid.proofs.TakenLaws.{given_int, some_ints, uncut}

-- from some int types for which s stands the operation leads to outs
abbrev pub Begins : Context → Op → List ℕ → AbstractStack → List ValType → Type 0
Begins c o labels s outs =
    (ins : List ValType) × AreInt ins × (stands s ins ≡ true) × Leads c (o, labels) ins outs

-- an abstract stack follows, and stands for outs
abbrev pub Follows : Option AbstractStack → List ValType → Type 0
Follows o outs = (t : AbstractStack) × (o ≡ Some t) × (stands t outs ≡ true)

anything_stands : (ts : List ValType) → stands anything ts ≡ true
anything_stands ts = anything_agrees (reverse ts)

-- ---- an operation with a stack type

stack_type_begins : (s t : AbstractStack) (stack_type : StackType) (outs : List ValType)
    → AreInt stack_type.0 → AreInt outs
    → passed s stack_type ≡ Some t → stands t outs ≡ true
    → (ts : List ValType) × (outs ≡ ts ++ stack_type.1) × AreInt (ts ++ stack_type.0)
    × (stands s (ts ++ stack_type.0) ≡ true)
stack_type_begins s t stack_type outs i j h g =
    let p = map_some (given stack_type.1) (taken stack_type.0 s) t h in
    let q = stands_given stack_type.1 p.0 outs (subst (λ x. stands x outs ≡ true) (sym p.2) g) in
    let under : AreInt q.0 = left_int q.0 stack_type.1 (subst AreInt q.1 j) in
    (q.0, q.1, joined_int q.0 stack_type.0 under i, taken_stands stack_type.0 s p.0 q.0 p.1 q.2)

plain_begins : (c : Context) (o : Op) (s t : AbstractStack) (outs : List ValType) → HasNoFloat c → AreInt outs
    → option_and_then (passed s) (only_type c o) ≡ Some t → stands t outs ≡ true
    → (ins : List ValType) × AreInt ins × (stands s ins ≡ true)
    × ((ts a b : List ValType) × (ins ≡ ts ++ a) × (only_type c o ≡ Some (a, b)) × (outs ≡ ts ++ b))
plain_begins c o s t outs n j h g =
    let p = some_and_then (passed s) (only_type c o) t h in
    let i = stack_type_ints (only_type c o) p.0 (stack_type_int c o n) p.1 in
    let q = stack_type_begins s t p.0 outs i.0 j p.2 g in
    (q.0 ++ p.0.0, q.2, q.3, (q.0, p.0.0, p.0.1, refl, p.1, q.1))

plain_int : (c : Context) (o : Op) (s t : AbstractStack) → HasNoFloat c → AreIntOperands s.operands
    → option_and_then (passed s) (only_type c o) ≡ Some t → AreIntOperands t.operands
plain_int c o s t n k h =
    let p = some_and_then (passed s) (only_type c o) t h in
    let i = stack_type_ints (only_type c o) p.0 (stack_type_int c o n) p.1 in
    let q = map_some (given p.0.1) (taken p.0.0 s) t p.2 in
    subst (λ x. AreIntOperands x.operands) q.2 (given_int p.0.1 q.0 i.1 (taken_int p.0.0 s q.0 k q.1))

plain_follows : (c : Context) (o : Op) (s : AbstractStack) (ins outs ts a b : List ValType)
    → stands s ins ≡ true
    → ins ≡ ts ++ a → only_type c o ≡ Some (a, b) → outs ≡ ts ++ b
    → Follows (option_and_then (passed s) (only_type c o)) outs
plain_follows c o s ins outs ts a b h e k f =
    let p = stands_taken a s ts (subst (λ x. stands s x ≡ true) e h) in (
      given b p.0,
      some_then (passed s) (only_type c o) (a, b) (given b p.0) k (some_map (given b) (taken a s) p.0 p.1),
      subst (λ x. stands (given b p.0) x ≡ true) (sym f) (given_stands b p.0 ts p.2),
    )

-- ---- branches: they take a label's types, and anything may stand behind them

ends_anything : (s t : AbstractStack) (label : Option (List ValType)) → after_branch s label ≡ Some t
    → (ts : List ValType) × (below : AbstractStack) × (label ≡ Some ts) × (taken ts s ≡ Some below)
    × (anything ≡ t)
ends_anything s t None h = absurd (cc h)
ends_anything s t (Some label) h =
    let p = map_some (λ below. anything) (taken label s) t h in (label, p.0, refl, p.1, p.2)

ends_here : (s below : AbstractStack) (label : List ValType) (o : Option (List ValType)) → o ≡ Some label
    → taken label s ≡ Some below → after_branch s o ≡ Some anything
ends_here s below label o h g = ap (after_branch s) h ∙ some_map (λ x. anything) (taken label s) below g

-- some int types below a label's, for which the abstract stack stands
branch_begins : (s below : AbstractStack) (label : List ValType) → AreIntOperands s.operands
    → taken label s ≡ Some below
    → (ts : List ValType) × AreInt ts × (stands s (ts ++ label) ≡ true)
branch_begins s below label k h =
    let p = some_ints below (taken_int label s below k h) in (p.0, p.1, taken_stands label s below p.0 h p.2)

branch_follows : (s : AbstractStack) (ts a under label outs : List ValType) (o : Option (List ValType))
    → stands s (ts ++ a) ≡ true
    → a ≡ under ++ label → o ≡ Some label → Follows (after_branch s o) outs
branch_follows s ts a under label outs o h e k =
    let p =
    stands_taken label s (ts ++ under)
    (subst (λ x. stands s x ≡ true) (ap (λ x. ts ++ x) e ∙ sym (append_assoc ts under label)) h) in
    (anything, ends_here s p.0 label o k p.1, anything_stands outs)

-- ---- the labels of a br_table

label_is : (label : List ValType) (o : Option (List ValType)) → is_label label o ≡ true → o ≡ Some label
label_is label None h = absurd (cc h)
label_is label (Some other) h = ap Some (sym (same_types_are label other h))

is_that_label : (label : List ValType) (o : Option (List ValType)) → o ≡ Some label → is_label label o ≡ true
is_that_label label o h = subst (λ x. is_label label x ≡ true) (sym h) (same_types_self label)

all_are : (c : Context) (label : List ValType) (labels : List ℕ)
    → list_all (λ other. is_label label (slice_get c.labels other)) labels ≡ true → AreLabels c label labels
all_are c label [] h = tt
all_are c label (l ∷ labels) h =
    let p =
    and_parts (is_label label (slice_get c.labels l))
    (list_all (λ other. is_label label (slice_get c.labels other)) labels) h in
    (label_is label (slice_get c.labels l) p.0, all_are c label labels p.1)

are_all : (c : Context) (label : List ValType) (labels : List ℕ) → AreLabels c label labels
    → list_all (λ other. is_label label (slice_get c.labels other)) labels ≡ true
are_all c label [] h = refl
are_all c label (l ∷ labels) h =
    and_from (is_label label (slice_get c.labels l))
    (list_all (λ other. is_label label (slice_get c.labels other)) labels)
    (is_that_label label (slice_get c.labels l) h.0) (are_all c label labels h.1)

common_are : (c : Context) (label : List ValType) (labels : List ℕ) → common_label c labels ≡ Some label
    → (0 < length labels) × AreLabels c label labels
common_are c label [] h = absurd (cc h)
common_are c label (l ∷ labels) h =
    let p =
    some_and_then (λ label. cond (list_all (λ other. is_label label (slice_get c.labels other)) labels)
    (Some label) None) (slice_get c.labels l) label h in
    let q = some_if_true (list_all (λ other. is_label p.0 (slice_get c.labels other)) labels) p.0 label p.2 in
    (omega arith, subst (λ x. AreLabels c x (l ∷ labels)) q.1 (p.1, all_are c p.0 labels q.0))

are_common : (c : Context) (label : List ValType) (labels : List ℕ) → 0 < length labels
    → AreLabels c label labels → common_label c labels ≡ Some label
are_common c label [] some h = absurd (omega arith)
are_common c label (l ∷ labels) some h =
    some_then (λ label. cond (list_all (λ other. is_label label (slice_get c.labels other)) labels)
    (Some label) None) (slice_get c.labels l) label label h.0
    (some_if (list_all (λ other. is_label label (slice_get c.labels other)) labels) (Some label)
    (are_all c label labels h.1))

-- ---- drop

dropped_begins : (s t : AbstractStack) (outs : List ValType) → AreIntOperands s.operands → dropped s ≡ Some t
    → stands t outs ≡ true
    → (u : ValType) × IsInt u × (stands s (outs ++ u ∷ []) ≡ true)
dropped_begins s t outs k h g =
    let p = map_some (λ top. with_operands s top.1) (topmost s.unreachable s.operands) t h in
    let u = some_type p.0.0 (top_int s.unreachable s.operands p.0 k p.1).0 in (
      u.0,
      u.1,
      subst (λ xs. agree s.operands s.unreachable xs ≡ true) (sym (reverse-append outs (u.0 ∷ [])))
          (top_agrees s.unreachable s.operands p.0 u.0 (reverse outs) p.1 u.2
          (subst (λ x. stands x outs ≡ true) (sym p.2) g)),
    )

dropped_int : (s t : AbstractStack) → AreIntOperands s.operands → dropped s ≡ Some t
    → AreIntOperands t.operands
dropped_int s t k h =
    let p = map_some (λ top. with_operands s top.1) (topmost s.unreachable s.operands) t h in
    subst (λ x. AreIntOperands x.operands) p.2 (top_int s.unreachable s.operands p.0 k p.1).1

dropped_follows : (s : AbstractStack) (ts : List ValType) (u : ValType) → stands s (ts ++ u ∷ []) ≡ true
    → Follows (dropped s) ts
dropped_follows s ts u h =
    let p =
    agrees_top s.unreachable s.operands u (reverse ts)
    (subst (λ xs. agree s.operands s.unreachable xs ≡ true) (reverse-append ts (u ∷ [])) h) in (
      with_operands s p.1,
      some_map (λ top. with_operands s top.1) (topmost s.unreachable s.operands)
          (p.0, p.1) p.2,
      p.4,
    )

-- ---- select

first_agrees : (k : OperandType) (ks : List OperandType) (unreachable : Bool) (ts : List ValType)
    → agree (k ∷ ks) unreachable ts ≡ true
    → (u : ValType) × (rest : List ValType) × (ts ≡ u ∷ rest) × (agrees k u ≡ true)
    × (agree ks unreachable rest ≡ true)
first_agrees k ks unreachable [] h = absurd (cc h)
first_agrees k ks unreachable (t ∷ ts) h =
    let p = and_parts (agrees k t) (agree ks unreachable ts) h in (t, ts, refl, p.0, p.1)

record Two (s t : AbstractStack) : Type 0 where
  pub upper : OperandType × List OperandType
  pub lower : OperandType × List OperandType
  pub both : OperandType
  pub there : topmost s.unreachable s.operands ≡ Some upper
  pub under : topmost s.unreachable upper.1 ≡ Some lower
  pub common : common_type upper.0 lower.0 ≡ Some both
  pub result_is : with_operands s (both ∷ lower.1) ≡ t

two : (s t : AbstractStack) → selected s ≡ Some t → Two s t
two s t h =
    let p = some_and_then (λ top. select_with s top.0 top.1) (topmost s.unreachable s.operands) t h in
    let q =
    some_and_then (λ top. option_map (λ kind. with_operands s (kind ∷ top.1)) (common_type p.0.0 top.0))
    (topmost s.unreachable p.0.1) t p.2 in
    let r = map_some (λ kind. with_operands s (kind ∷ q.0.1)) (common_type p.0.0 q.0.0) t q.2 in
    record { upper = p.0; lower = q.0; both = r.0; there = p.1; under = q.1; common = r.1; result_is = r.2 }

selected_begins : (s t : AbstractStack) (outs : List ValType) → AreInt outs → selected s ≡ Some t
    → stands t outs ≡ true
    → (ts : List ValType) × (u : ValType) × (outs ≡ ts ++ u ∷ []) × IsInt u × AreInt ts
    × (stands s (ts ++ u ∷ u ∷ []) ≡ true)
selected_begins s t outs i h g =
    let w = two s t h in
    let p =
    first_agrees w.both w.lower.1 s.unreachable (reverse outs)
    (subst (λ x. stands x outs ≡ true) (sym w.result_is) g) in
    let a = common_agrees w.upper.0 w.lower.0 w.both p.0 w.common p.3 in
    let e = uncut outs (p.0 ∷ []) p.1 p.2 in
    let j = subst AreInt e i in
    let low = top_agrees s.unreachable w.upper.1 w.lower p.0 p.1 w.under a.1 p.4 in
    let high = top_agrees s.unreachable s.operands w.upper p.0 (p.0 ∷ p.1) w.there a.0 low in (
      reverse p.1,
      p.0,
      e,
      (right_int (reverse p.1) (p.0 ∷ []) j).0,
      left_int (reverse p.1) (p.0 ∷ []) j,
      subst (λ xs. agree s.operands s.unreachable xs ≡ true)
          (sym (reverse-append (reverse p.1) (p.0 ∷ p.0 ∷ [])))
          (subst (λ xs. agree s.operands s.unreachable (p.0 ∷ p.0 ∷ xs) ≡ true) (sym (reverse-reverse p.1))
          high),
    )

selected_int : (s t : AbstractStack) → AreIntOperands s.operands → selected s ≡ Some t
    → AreIntOperands t.operands
selected_int s t k h =
    let w = two s t h in
    let a = top_int s.unreachable s.operands w.upper k w.there in
    let b = top_int s.unreachable w.upper.1 w.lower a.1 w.under in
    subst (λ x. AreIntOperands x.operands) w.result_is
    (common_int w.upper.0 w.lower.0 w.both a.0 b.0 w.common, b.1)

selected_follows : (s : AbstractStack) (ts : List ValType) (u : ValType) → stands s (ts ++ u ∷ u ∷ []) ≡ true
    → Follows (selected s) (ts ++ u ∷ [])
selected_follows s ts u h =
    let p =
    agrees_top s.unreachable s.operands u (u ∷ reverse ts)
    (subst (λ xs. agree s.operands s.unreachable xs ≡ true) (reverse-append ts (u ∷ u ∷ [])) h) in
    let q = agrees_top s.unreachable p.1 u (reverse ts) p.4 in
    let r = agrees_common p.0 q.0 u p.3 q.3 in
    let t = with_operands s (r.0 ∷ q.1) in (
      t,
      some_then (λ top. select_with s top.0 top.1) (topmost s.unreachable s.operands) (p.0, p.1) t p.2
          (some_then (λ top. option_map (λ kind. with_operands s (kind ∷ top.1)) (common_type p.0 top.0))
          (topmost s.unreachable p.1) (q.0, q.1) t q.2
          (some_map (λ kind. with_operands s (kind ∷ q.1)) (common_type p.0 q.0) r.0 r.1)),
      subst (λ xs. agree (r.0 ∷ q.1) s.unreachable xs ≡ true) (sym (reverse-append ts (u ∷ [])))
          (and_from (agrees r.0 u) (agree q.1 s.unreachable (reverse ts)) r.2 q.4),
    )

-- ---- each operation

label_int : (c : Context) (l : ℕ) (label : List ValType) → HasNoFloat c → slice_get c.labels l ≡ Some label
    → AreInt label
label_int c l label n h =
    all_at AreInt c.labels l label n.labels h

labels_int : (c : Context) (labels : List ℕ) (label : List ValType) → HasNoFloat c → 0 < length labels
    → AreLabels c label labels → AreInt label
labels_int c [] label n some h = absurd (omega arith)
labels_int c (l ∷ labels) label n some h = label_int c l label n h.0

-- from some int types for which s stands the step leads to outs
pub step_begins : (c : Context) (o : Op) (labels : List ℕ) (s t : AbstractStack) (outs : List ValType)
    → HasNoFloat c
    → AreIntOperands s.operands → AreInt outs
    → step c o labels s ≡ Some t → stands t outs ≡ true → Begins c o labels s outs
step_begins c op.Unreachable labels s t outs n k i h g =
    let p = some_ints s k in (p.0, p.1, p.2, ([], p.0, outs, refl, (p.1, i), refl))
step_begins c (op.Br l) labels s t outs n k i h g =
    let p = ends_anything s t (slice_get c.labels l) h in
    let q = branch_begins s p.1 p.0 k p.3 in (
      q.0 ++ p.0,
      joined_int q.0 p.0 q.1 (label_int c l p.0 n p.2),
      q.2,
      ([], q.0 ++ p.0, outs, refl, (q.0, p.0, p.2, refl, q.1, i), refl),
    )
step_begins c op.BrTable labels s t outs n k i h g =
    let m = some_and_then (λ below. after_branch below (common_label c labels)) (taken (I32 ∷ []) s) t h in
    let p = ends_anything m.0 t (common_label c labels) m.2 in
    let q = branch_begins m.0 p.1 p.0 (taken_int (I32 ∷ []) s m.0 k m.1) p.3 in
    let r = common_are c p.0 labels p.2 in
    let whole = q.0 ++ p.0 ++ I32 ∷ [] in (
      whole,
      joined_int (q.0 ++ p.0) (I32 ∷ []) (joined_int q.0 p.0 q.1 (labels_int c labels p.0 n r.0 r.1))
          (tt, tt),
      taken_stands (I32 ∷ []) s m.0 (q.0 ++ p.0) m.1 q.2,
      ([], whole, outs, refl, (q.0, p.0, r.0, r.1, refl, q.1, i), refl),
    )
step_begins c op.Return labels s t outs n k i h g =
    let p = map_some (λ below. anything) (taken c.results s) t h in
    let q = branch_begins s p.0 c.results k p.1 in (
      q.0 ++ c.results,
      joined_int q.0 c.results q.1 n.results,
      q.2,
      ([], q.0 ++ c.results, outs, refl, (q.0, refl, q.1, i), refl),
    )
step_begins c op.Drop labels s t outs n k i h g =
    let p = dropped_begins s t outs k h g in (
      outs ++ p.0 ∷ [],
      joined_int outs (p.0 ∷ []) i (p.1, tt),
      p.2,
      (outs, p.0 ∷ [], [], refl, (p.0, p.1, refl, refl), sym (append-nil outs)),
    )
step_begins c op.Select labels s t outs n k i h g =
    let m = some_and_then selected (taken (I32 ∷ []) s) t h in
    let p = selected_begins m.0 t outs i m.2 g in
    let ts = p.0 in
    let u = p.1 in (
      ts ++ u ∷ u ∷ [] ++ I32 ∷ [],
      joined_int (ts ++ u ∷ u ∷ []) (I32 ∷ []) (joined_int ts (u ∷ u ∷ []) p.4 (p.3, (p.3, tt))) (tt, tt),
      taken_stands (I32 ∷ []) s m.0 (ts ++ u ∷ u ∷ []) m.1 p.5,
      (ts, u ∷ u ∷ I32 ∷ [], u ∷ [], append_assoc ts (u ∷ u ∷ []) (I32 ∷ []), (u, p.3, refl, refl), p.2),
    )
step_begins c o labels s t outs n k i h g = plain_begins c o s t outs n i h g

-- no float comes to an abstract stack by a step
pub step_int : (c : Context) (o : Op) (labels : List ℕ) (s t : AbstractStack) → HasNoFloat c
    → AreIntOperands s.operands
    → step c o labels s ≡ Some t → AreIntOperands t.operands
step_int c op.Unreachable labels s t n k h =
    let e : anything ≡ t = cc h in subst (λ x. AreIntOperands x.operands) e tt
step_int c (op.Br l) labels s t n k h =
    subst (λ x. AreIntOperands x.operands) (ends_anything s t (slice_get c.labels l) h).4 tt
step_int c op.BrTable labels s t n k h =
    let m = some_and_then (λ below. after_branch below (common_label c labels)) (taken (I32 ∷ []) s) t h in
    subst (λ x. AreIntOperands x.operands) (ends_anything m.0 t (common_label c labels) m.2).4 tt
step_int c op.Return labels s t n k h =
    subst (λ x. AreIntOperands x.operands) (ends_anything s t (Some c.results) h).4 tt
step_int c op.Drop labels s t n k h = dropped_int s t k h
step_int c op.Select labels s t n k h =
    let m = some_and_then selected (taken (I32 ∷ []) s) t h in
    selected_int m.0 t (taken_int (I32 ∷ []) s m.0 k m.1) m.2
step_int c o labels s t n k h = plain_int c o s t n k h

-- where the operation leads from types for which s stands, the step is there and stands for where it leads
pub step_follows : (c : Context) (o : Op) (labels : List ℕ) (s : AbstractStack) (ins outs : List ValType)
    → stands s ins ≡ true → Leads c (o, labels) ins outs → Follows (step c o labels s) outs
step_follows c op.Unreachable labels s ins outs h l = (anything, refl, anything_stands outs)
step_follows c (op.Br label) labels s ins outs h (ts, a, b, e, (under, types, there, parts, i, j), f) =
    branch_follows s ts a under types outs (slice_get c.labels label) (subst (λ x. stands s x ≡ true) e h)
    parts there
step_follows c op.BrTable labels s ins outs h (ts, a, b, e, (under, types, some, there, parts, i, j), f) =
    let whole = ap (λ x. ts ++ x) parts ∙ sym (append_assoc ts (under ++ types) (I32 ∷ [])) in
    let m =
    stands_taken (I32 ∷ []) s (ts ++ (under ++ types)) (subst (λ x. stands s x ≡ true) (e ∙ whole) h) in
    let p =
    branch_follows m.0 ts (under ++ types) under types outs (common_label c labels) m.2 refl
    (are_common c types labels some there) in (
      p.0,
      some_then (λ below. after_branch below (common_label c labels)) (taken (I32 ∷ []) s) m.0 p.0 m.1
          p.1,
      p.2,
    )
step_follows c op.Return labels s ins outs h (ts, a, b, e, (under, parts, i, j), f) =
    branch_follows s ts a under c.results outs (Some c.results) (subst (λ x. stands s x ≡ true) e h)
    parts refl
step_follows c op.Drop labels s ins outs h (ts, a, b, e, (t, i, one, none), f) =
    let p = dropped_follows s ts t (subst (λ x. stands s x ≡ true) (e ∙ ap (λ x. ts ++ x) one) h) in
    (p.0, p.1, subst (λ x. stands p.0 x ≡ true) (sym (f ∙ ap (λ x. ts ++ x) none ∙ append-nil ts)) p.2)
step_follows c op.Select labels s ins outs h (ts, a, b, e, (t, i, three, one), f) =
    let whole = e ∙ ap (λ x. ts ++ x) three ∙ sym (append_assoc ts (t ∷ t ∷ []) (I32 ∷ [])) in
    let m = stands_taken (I32 ∷ []) s (ts ++ t ∷ t ∷ []) (subst (λ x. stands s x ≡ true) whole h) in
    let p = selected_follows m.0 ts t m.2 in (
      p.0,
      some_then selected (taken (I32 ∷ []) s) m.0 p.0 m.1 p.1,
      subst (λ x. stands p.0 x ≡ true) (sym (f ∙ ap (λ x. ts ++ x) one)) p.2,
    )
step_follows c o labels s ins outs h (ts, a, b, e, k, f) = plain_follows c o s ins outs ts a b h e k f
