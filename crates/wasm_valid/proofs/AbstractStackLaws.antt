-- The abstract stack of a list decides its typing: by induction on the list, from any abstract stack.
use Rattle.std.proofs.Common.{◌≡◌, Bool, true, false, ◌&&◌, ◌||◌, cond, List, [], ◌∷◌, ◌++◌, reverse, Option}
use Rattle.std.proofs.Common.{Some, None, option_and_then, refl, sym, ap, ◌∙◌, subst}
use Rattle.std.proofs.lemmas.Bool.{and_parts, and_from, or_parts}
use Rattle.std.proofs.lemmas.List.{reverse-reverse}
use Rattle.w4_defs.specs.declared.value.ValType.{ValType}
use Rattle.w4_defs.specs.declared.value.ValType.TheVariants.{I32}
use Rattle.w4_defs.specs.Tree.{Expr, done, plain, block, loop, if_then, if_else}
use Rattle.w4_defs.specs.Floats.{has_float, is_float_result, is_float_operation}
use Rattle.w4_defs.specs.Typing.{Context, with_label, HasType, AreInt}
use Rattle.w4_defs.specs.ValueTypes.{result_types}
use Rattle.w4_defs.specs.AbstractStack.{AbstractStack, agree, empty, stands, stands_in, taken, given, step}
use Rattle.w4_defs.specs.AbstractStack.{stack_after}
use Rattle.wasm_valid.specs.AbstractStackLaw.{HasNoFloat, AreIntOperands, LeadsFrom, StackDecides}
use Rattle.wasm_valid.specs.AbstractStackLaw.{StackDecidesFrom}
use Rattle.wasm_valid.proofs.IntLaws.{joined_int, left_int, result_int, label_has_no_float}
use Rattle.wasm_valid.proofs.TakenLaws.{taken_stands, stands_taken, given_stands, stands_given, taken_int}
use Rattle.wasm_valid.proofs.TakenLaws.{given_int}
use Rattle.wasm_valid.proofs.StepLaws.{step_begins, step_int, step_follows}

stands_through : (g : AbstractStack → Option AbstractStack) (o : Option AbstractStack) (outs : List ValType)
    → stands_in (option_and_then g o) outs ≡ true
    → (s : AbstractStack) × (o ≡ Some s) × (stands_in (g s) outs ≡ true)
stands_through g None outs h = absurd (cc h)
stands_through g (Some s) outs h = (s, refl, h)

through_stands : (g : AbstractStack → Option AbstractStack) (o : Option AbstractStack) (s : AbstractStack)
    (outs : List ValType) → o ≡ Some s
    → stands_in (g s) outs ≡ true
    → stands_in (option_and_then g o) outs ≡ true
through_stands g o s outs e h = ap (λ x. stands_in (option_and_then g x) outs) e ∙ h

stands_where : (b : Bool) (o : Option AbstractStack) (outs : List ValType)
    → stands_in (cond b o None) outs ≡ true
    → (b ≡ true) × (stands_in o outs ≡ true)
stands_where true o outs h = (refl, h)
stands_where false o outs h = absurd (cc h)

where_stands : (b : Bool) (o : Option AbstractStack) (outs : List ValType) → b ≡ true
    → stands_in o outs ≡ true
    → stands_in (cond b o None) outs ≡ true
where_stands b o outs e h = ap (λ x. stands_in (cond x o None) outs) e ∙ h

three_free : (a b d : Bool) → (a || b || d) ≡ false → (a ≡ false) × (b ≡ false) × (d ≡ false)
three_free true b d h = absurd (cc h)
three_free false true d h = absurd (cc h)
three_free false false true h = absurd (cc h)
three_free false false false h = (refl, refl, refl)

none_agree : (ts : List ValType) → agree [] false ts ≡ true → ts ≡ []
none_agree [] h = refl
none_agree (t ∷ ts) h = absurd (cc h)

-- the empty abstract stack stands for no types alone
nothing_below : (ins : List ValType) → stands empty ins ≡ true → ins ≡ []
nothing_below ins h = sym (reverse-reverse ins) ∙ ap reverse (none_agree (reverse ins) h)

from_nothing : (c : Context) (e : Expr) (outs : List ValType) → LeadsFrom c e empty outs → HasType c e [] outs
from_nothing c e outs (ins, i, h, t) = subst (λ x. HasType c e x outs) (nothing_below ins h) t

led : (c : Context) (e : Expr) (outs ins same : List ValType) → ins ≡ same → HasType c e ins outs
    → HasType c e same outs
led c e outs ins same h t = subst (λ x. HasType c e x outs) h t

under_int : (outs ts us : List ValType) → outs ≡ ts ++ us → AreInt outs → AreInt ts
under_int outs ts us h i = left_int ts us (subst AreInt h i)

-- an if with an else leads where the list after it does
else_led : (c : Context) (r : Option ValType) (inner other rest : Expr) (ts outs : List ValType)
    → HasType (with_label (result_types r) c) inner [] (result_types r)
    → HasType (with_label (result_types r) c) other [] (result_types r)
    → HasType c rest (ts ++ result_types r) outs
    → HasType c (if_else r inner other rest) (ts ++ I32 ∷ []) outs
else_led c r inner other rest ts outs held held_other t = (ts, refl, held, held_other, t)

-- what the abstract stack after a list stands for, the list leads to from types for which the abstract stack
-- before it stands
pub begins : (c : Context) (e : Expr) (s : AbstractStack) (outs : List ValType) → HasNoFloat c
    → has_float e ≡ false
    → AreIntOperands s.operands → AreInt outs
    → stands_in (stack_after c e s) outs ≡ true → LeadsFrom c e s outs
begins c done s outs n f k i h = (outs, i, h, refl)
begins c (plain m rest) s outs n f k i h =
    let free = or_parts (is_float_operation m.0) (has_float rest) f in
    let p = stands_through (stack_after c rest) (step c m.0 m.1 s) outs h in
    let q = begins c rest p.0 outs n free.1 (step_int c m.0 m.1 s p.0 n k p.1) i p.2 in
    let r = step_begins c m.0 m.1 s p.0 q.0 n k q.1 p.1 q.2 in
    (r.0, r.1, r.2, (q.0, r.3, q.3))
begins c (block r inner rest) s outs n f k i h =
    let free = three_free (is_float_result r) (has_float inner) (has_float rest) f in
    let ints = result_int r free.0 in
    let there = label_has_no_float c (result_types r) ints n in
    let p =
    stands_where (stands_in (stack_after (with_label (result_types r) c) inner empty) (result_types r))
    (stack_after c rest (given (result_types r) s)) outs h in
    let held =
    from_nothing (with_label (result_types r) c) inner (result_types r)
    (begins (with_label (result_types r) c) inner empty (result_types r) there free.1 tt ints p.0) in
    let q =
    begins c rest (given (result_types r) s) outs n free.2 (given_int (result_types r) s ints k) i p.1 in
    let g = stands_given (result_types r) s q.0 q.2 in (
      g.0,
      under_int q.0 g.0 (result_types r) g.1 q.1,
      g.2,
      (held, led c rest outs q.0 (g.0 ++ result_types r) g.1 q.3),
    )
begins c (loop r inner rest) s outs n f k i h =
    let free = three_free (is_float_result r) (has_float inner) (has_float rest) f in
    let ints = result_int r free.0 in
    let there = label_has_no_float c [] tt n in
    let p =
    stands_where (stands_in (stack_after (with_label [] c) inner empty) (result_types r))
    (stack_after c rest (given (result_types r) s)) outs h in
    let held =
    from_nothing (with_label [] c) inner (result_types r)
    (begins (with_label [] c) inner empty (result_types r) there free.1 tt ints p.0) in
    let q =
    begins c rest (given (result_types r) s) outs n free.2 (given_int (result_types r) s ints k) i p.1 in
    let g = stands_given (result_types r) s q.0 q.2 in (
      g.0,
      under_int q.0 g.0 (result_types r) g.1 q.1,
      g.2,
      (held, led c rest outs q.0 (g.0 ++ result_types r) g.1 q.3),
    )
begins c (if_then None inner rest) s outs n f k i h =
    let free = or_parts (has_float inner) (has_float rest) f in
    let there = label_has_no_float c [] tt n in
    let p =
    stands_where (stands_in (stack_after (with_label [] c) inner empty) [])
    (option_and_then (stack_after c rest) (taken (I32 ∷ []) s)) outs h in
    let held =
    from_nothing (with_label [] c) inner []
    (begins (with_label [] c) inner empty [] there free.0 tt tt p.0) in
    let m = stands_through (stack_after c rest) (taken (I32 ∷ []) s) outs p.1 in
    let q = begins c rest m.0 outs n free.1 (taken_int (I32 ∷ []) s m.0 k m.1) i m.2 in (
      q.0 ++ I32 ∷ [],
      joined_int q.0 (I32 ∷ []) q.1 (tt, tt),
      taken_stands (I32 ∷ []) s m.0 q.0 m.1 q.2,
      (refl, q.0, refl, held, q.3),
    )
begins c (if_then (Some t) inner rest) s outs n f k i h = absurd (cc h)
begins c (if_else r inner other rest) s outs n f k i h =
    let first = or_parts (is_float_result r || has_float inner || has_float other) (has_float rest) f in
    let free = three_free (is_float_result r) (has_float inner) (has_float other) first.0 in
    let ints = result_int r free.0 in
    let label = with_label (result_types r) c in
    let there = label_has_no_float c (result_types r) ints n in
    let p =
    stands_where (stands_in (stack_after label inner empty) (result_types r)
    && stands_in (stack_after label other empty) (result_types r))
    (option_and_then (λ below. stack_after c rest (given (result_types r) below)) (taken (I32 ∷ []) s)) outs
    h in
    let both =
    and_parts (stands_in (stack_after label inner empty) (result_types r))
    (stands_in (stack_after label other empty) (result_types r)) p.0 in
    let held =
    from_nothing label inner (result_types r)
    (begins label inner empty (result_types r) there free.1 tt ints both.0) in
    let held_other =
    from_nothing label other (result_types r)
    (begins label other empty (result_types r) there free.2 tt ints both.1) in
    let m =
    stands_through (λ below. stack_after c rest (given (result_types r) below)) (taken (I32 ∷ []) s) outs p.1
    in
    let q =
    begins c rest (given (result_types r) m.0) outs n first.1
    (given_int (result_types r) m.0 ints (taken_int (I32 ∷ []) s m.0 k m.1)) i m.2 in
    let g = stands_given (result_types r) m.0 q.0 q.2 in (
      g.0 ++ I32 ∷ [],
      joined_int g.0 (I32 ∷ []) (under_int q.0 g.0 (result_types r) g.1 q.1) (tt, tt),
      taken_stands (I32 ∷ []) s m.0 g.0 m.1 g.2,
      else_led c r inner other rest g.0 outs held held_other
          (led c rest outs q.0 (g.0 ++ result_types r) g.1 q.3),
    )

-- the other way: the abstract stack after a list stands for where it leads
pub follows : (c : Context) (e : Expr) (s : AbstractStack) (ins outs : List ValType) → stands s ins ≡ true
    → HasType c e ins outs → stands_in (stack_after c e s) outs ≡ true
follows c done s ins outs h t = subst (λ x. stands s x ≡ true) t h
follows c (plain m rest) s ins outs h (mid, led, t) =
    let p = step_follows c m.0 m.1 s ins mid h led in
    through_stands (stack_after c rest) (step c m.0 m.1 s) p.0 outs p.1 (follows c rest p.0 mid outs p.2 t)
follows c (block r inner rest) s ins outs h (held, t) =
    where_stands (stands_in (stack_after (with_label (result_types r) c) inner empty) (result_types r))
    (stack_after c rest (given (result_types r) s)) outs
    (follows (with_label (result_types r) c) inner empty [] (result_types r) refl held)
    (follows c rest (given (result_types r) s) (ins ++ result_types r) outs
    (given_stands (result_types r) s ins h) t)
follows c (loop r inner rest) s ins outs h (held, t) =
    where_stands (stands_in (stack_after (with_label [] c) inner empty) (result_types r))
    (stack_after c rest (given (result_types r) s)) outs
    (follows (with_label [] c) inner empty [] (result_types r) refl held)
    (follows c rest (given (result_types r) s) (ins ++ result_types r) outs
    (given_stands (result_types r) s ins h) t)
follows c (if_then None inner rest) s ins outs h (none, ts, e, held, t) =
    let m = stands_taken (I32 ∷ []) s ts (subst (λ x. stands s x ≡ true) e h) in
    where_stands (stands_in (stack_after (with_label [] c) inner empty) [])
    (option_and_then (stack_after c rest) (taken (I32 ∷ []) s)) outs
    (follows (with_label [] c) inner empty [] [] refl held)
    (through_stands (stack_after c rest) (taken (I32 ∷ []) s) m.0 outs m.1 (follows c rest m.0 ts outs m.2 t))
follows c (if_then (Some r) inner rest) s ins outs h (none, ts, e, held, t) = absurd (cc none)
follows c (if_else r inner other rest) s ins outs h (ts, e, held, held_other, t) =
    let label = with_label (result_types r) c in
    let m = stands_taken (I32 ∷ []) s ts (subst (λ x. stands s x ≡ true) e h) in
    where_stands (stands_in (stack_after label inner empty) (result_types r)
    && stands_in (stack_after label other empty) (result_types r))
    (option_and_then (λ below. stack_after c rest (given (result_types r) below)) (taken (I32 ∷ []) s)) outs
    (and_from (stands_in (stack_after label inner empty) (result_types r))
    (stands_in (stack_after label other empty) (result_types r))
    (follows label inner empty [] (result_types r) refl held)
    (follows label other empty [] (result_types r) refl held_other))
    (through_stands (λ below. stack_after c rest (given (result_types r) below)) (taken (I32 ∷ []) s) m.0
    outs m.1
    (follows c rest (given (result_types r) m.0) (ts ++ result_types r) outs
    (given_stands (result_types r) m.0 ts m.2) t))

pub stack_decides_from : StackDecidesFrom
stack_decides_from c e s outs n f k i = ((λ l. follows c e s l.0 outs l.2 l.3), begins c e s outs n f k i)

pub stack_decides : StackDecides
stack_decides c e ts n f i =
    ((λ t. follows c e empty [] ts refl t), (λ h. from_nothing c e ts (begins c e empty ts n f tt i h)))
