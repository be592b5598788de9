-- A flattening has a float where its tree has one.
use Rattle.std.proofs.Common.{◌≡◌, ℕ, ◌+◌, List, [], ◌∷◌, ◌++◌, map, Bool, false}
use Rattle.std.proofs.Common.{Option, Some, None, refl, sym, ◌∙◌, ap}
use Rattle.std.specs.Prelude.{◌||◌, option_map, filter_map, IfSome}
use Rattle.std.specs.List.{cons_option, list_any}
use Rattle.std.proofs.lemmas.List.{map-append}
use Rattle.std.proofs.lemmas.List.Folds.{list_any-append}
use Rattle.std.proofs.lemmas.Option.{same_Some}
use Rattle.w4_defs.specs.declared.value.GlobalType.{GlobalType}
use Rattle.w4_defs.specs.declared.operation.Op.{Op}
use Rattle.w4_defs.specs.declared.operation.Op.TheVariants.{Block, Loop, If, Else, End}
use Rattle.w4_defs.specs.declared.module.Locals.{Locals}
use Rattle.w4_defs.specs.declared.module.ImportKind.{ImportKind}
use Rattle.w4_defs.specs.declared.module.ImportKind.TheVariants as kind
use Rattle.w4_defs.specs.Tree.{Mark, mark, Expr, done, plain, block, loop, if_then, if_else, span, flat_at}
use Rattle.w4_defs.specs.Tree.{flat}
use Rattle.w4_defs.specs.Flattening.{IsLeaf, IsProper}
use Rattle.w4_defs.specs.Module.{Function, Imported, Global}
use Rattle.w4_defs.specs.Floats.{is_float, is_float_result, is_float_operation, has_float, function_has_float}
use Rattle.w4_defs.specs.Lookup.{imported_global}
use Rattle.wasm_tree.specs.Pool.{operations_of}
use Rattle.wasm_tree.specs.Layout.{IsBody}
use Rattle.wasm_link.specs.Judging.{is_float_mark, imports_float}

-- whether a float stands among the marks
abbrev floats : List Mark → Bool
floats ms = list_any is_float_mark (operations_of ms)

leaf_float : (op : Op) → IsLeaf op → is_float_mark op ≡ is_float_operation op
leaf_float (Block r m) h = absurd h
leaf_float (Loop r m) h = absurd h
leaf_float (If r other m) h = absurd h
leaf_float op h = refl

floats_append : (xs ys : List Mark) → floats (xs ++ ys) ≡ (floats xs || floats ys)
floats_append xs ys = ap (list_any is_float_mark) (map-append (λ m. m.0) xs ys)
    ∙ list_any-append is_float_mark (operations_of xs) (operations_of ys)

-- a list that opens with a mark, and what follows it
opened_floats : (x : Mark) (xs ys : List Mark) (first inner rest : Bool) → is_float_mark x.0 ≡ first
    → floats xs ≡ inner → floats ys ≡ rest → floats ((x ∷ xs) ++ ys) ≡ (first || inner || rest)
opened_floats x xs ys first inner rest ex exs eys =
    floats_append (x ∷ xs) ys ∙ ap (λ b. (b || floats xs) || floats ys) ex
    ∙ ap (λ b. (first || b) || floats ys) exs ∙ ap (λ b. (first || inner) || b) eys

pub flat_floats : (close : Op) → is_float_mark close ≡ false → (at : ℕ) (e : Expr) → IsProper e
    → floats (flat_at close at e) ≡ has_float e
flat_floats close c at done p = ap (λ b. b || false) c
flat_floats close c at (plain m rest) p =
    ap (λ b. b || floats (flat_at close (at + 1) rest)) (leaf_float m.0 p.0)
    ∙ ap (λ b. is_float_operation m.0 || b) (flat_floats close c (at + 1) rest p.1)
flat_floats close c at (block r inner rest) p =
    opened_floats (mark (Block r (at + 1 + span inner))) (flat_at End (at + 1) inner)
    (flat_at close (at + 1 + span inner + 1) rest) _ _ _ refl
    (flat_floats End refl (at + 1) inner p.0) (flat_floats close c (at + 1 + span inner + 1) rest p.1)
flat_floats close c at (loop r inner rest) p =
    opened_floats (mark (Loop r (at + 1 + span inner))) (flat_at End (at + 1) inner)
    (flat_at close (at + 1 + span inner + 1) rest) _ _ _ refl
    (flat_floats End refl (at + 1) inner p.0) (flat_floats close c (at + 1 + span inner + 1) rest p.1)
flat_floats close c at (if_then r taken rest) p =
    opened_floats (mark (If r None (at + 1 + span taken))) (flat_at End (at + 1) taken)
    (flat_at close (at + 1 + span taken + 1) rest) _ _ _ refl
    (flat_floats End refl (at + 1) taken p.0) (flat_floats close c (at + 1 + span taken + 1) rest p.1)
flat_floats close c at (if_else r taken other rest) p =
    let middle : ℕ = at + 1 + span taken in
    let end : ℕ = middle + 1 + span other in
    let front : List Mark = (mark (If r (Some middle) end) ∷ flat_at Else (at + 1) taken)
    ++ flat_at End (middle + 1) other in
    let first : floats front ≡ (is_float_result r || has_float taken || has_float other) =
    opened_floats (mark (If r (Some middle) end)) (flat_at Else (at + 1) taken)
    (flat_at End (middle + 1) other) _ _
    _ refl (flat_floats Else refl (at + 1) taken p.0) (flat_floats End refl (middle + 1) other p.1) in
    floats_append front (flat_at close (end + 1) rest) ∙ ap (λ b. b || floats (flat_at close (end + 1) rest))
    first
    ∙ ap (λ b. (is_float_result r || has_float taken || has_float other) || b)
    (flat_floats close c (end + 1) rest p.2)

pub expression_floats : (e : Expr) (ops : List Op) → ops ≡ operations_of (flat e) → IsProper e
    → list_any is_float_mark ops ≡ has_float e
expression_floats e ops is p = ap (list_any is_float_mark) is ∙ flat_floats End refl 0 e p

-- one body
body_floats : (b : Function) (runs : List Locals) (ops : List Op) → b.runs ≡ runs → IsBody (Some b) ops
    → IsProper b.list
    → (list_any (λ run. is_float run.kind) runs || list_any is_float_mark ops) ≡ function_has_float b
body_floats b runs ops er is p =
    ap (λ rs. list_any (λ run. is_float run.kind) rs || list_any is_float_mark ops) (sym er)
    ∙ ap (λ x. list_any (λ run. is_float run.kind) b.runs || x)
    (ap (list_any is_float_mark) is.1 ∙ flat_floats End refl is.0 b.list p)

pub body_flag : (b : Option Function) (runs : List Locals) (ops : List Op)
    → option_map (λ f. f.runs) b ≡ Some runs → IsBody b ops → IfSome b (λ f. IsProper f.list)
    → option_map function_has_float b
    ≡ Some (list_any (λ run. is_float run.kind) runs || list_any is_float_mark ops)
body_flag None runs ops er is p = absurd is
body_flag (Some b) runs ops er is p = ap Some (sym (body_floats b runs ops (same_Some _ _ er) is p))

kind_float : (k : ImportKind) (others : List GlobalType)
    → list_any (λ g. is_float g.value) (cons_option (imported_global k) others)
    ≡ (imports_float k || list_any (λ g. is_float g.value) others)
kind_float (kind.Func index) others = refl
kind_float (kind.Table limits) others = refl
kind_float (kind.Memory limits) others = refl
kind_float (kind.Global global) others = refl

imported_floats : (is : List Imported)
    → list_any (λ g. is_float g.value) (filter_map (λ i. imported_global i.kind) is)
    ≡ list_any (λ i. imports_float i.kind) is
imported_floats [] = refl
imported_floats (i ∷ is) = kind_float i.kind (filter_map (λ j. imported_global j.kind) is)
    ∙ ap (λ b. imports_float i.kind || b) (imported_floats is)

own_floats : (gs : List Global)
    → list_any (λ g. is_float g.value) (map (λ g. g.global) gs) ≡ list_any (λ g. is_float g.global.value)
    gs
own_floats [] = refl
own_floats (g ∷ gs) = ap (λ b. is_float g.global.value || b) (own_floats gs)

-- imported globals and own ones
pub global_floats : (is : List Imported) (gs : List Global)
    → (list_any (λ i. imports_float i.kind) is || list_any (λ g. is_float g.global.value) gs)
    ≡ list_any (λ g. is_float g.value) (filter_map (λ i. imported_global i.kind) is ++ map (λ g. g.global) gs)
global_floats is gs =
    sym (list_any-append (λ g. is_float g.value) (filter_map (λ i. imported_global i.kind) is)
    (map (λ g. g.global) gs)
    ∙ ap (λ b. b || list_any (λ g. is_float g.value) (map (λ g. g.global) gs)) (imported_floats is)
    ∙ ap (λ b. list_any (λ i. imports_float i.kind) is || b) (own_floats gs))
