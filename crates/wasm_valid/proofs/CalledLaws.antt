-- What a function index names, by the index of its type: the module's own functions with their bodies, and
-- imports.
use Rattle.std.proofs.Common.{◌≡◌, ℕ, zero, suc, List, [], ◌∷◌, ◌++◌, length, Option, Some, None, refl, sym}
use Rattle.std.proofs.Common.{ap, ◌∙◌, subst}
use Rattle.std.specs.Prelude.{slice_get, filter_map}
use Rattle.std.specs.List.{AllZip, cons_option}
use Rattle.w4_defs.specs.declared.console.Import.{Import}
use Rattle.w4_defs.specs.declared.module.ImportKind.{ImportKind}
use Rattle.w4_defs.specs.declared.module.ImportKind.TheVariants.{Func, Table, Memory, Global}
use Rattle.w4_defs.specs.ImportNames.{import_named}
use Rattle.w4_defs.specs.Lookup.{imported_function, function_indices}
use Rattle.w4_defs.specs.Module.{Signature, Imported, Function, WasmModule}
use Rattle.w4_defs.specs.Program.{Own, Callee, own_function, host_function, no_function, own_callee}
use Rattle.w4_defs.specs.Program.{own_callees, imported_callee, with_import, imported_callees, callees}
use Rattle.wasm_valid.specs.declared.call.Call.{Call}
use Rattle.wasm_valid.specs.declared.call.Call.TheVariants as call
use Rattle.wasm_valid.specs.Calls.{IsCall}
use Rattle.wasm_valid.specs.Called.{OwnBodiesAreTyped, HasCounts, CallsAreCounted}
use Rattle.wasm_valid.proofs.OperandTypeLaws.{some_and_then}
use Rattle.wasm_valid.proofs.TypedModules.{body_typed}

-- ---- own functions

own_first : (g : Function) (f : Own) (o : Option Signature) → Some (own_callee o g) ≡ Some (own_function f)
    → (o ≡ Some f.signature) × (g ≡ f.function)
own_first g f None h = absurd (cc h)
own_first g f (Some s) h =
    let made : Own = record { signature = s; function = g } in
    let e : made ≡ f = cc h in
    (ap (λ (x : Own). Some x.signature) e, ap (λ (x : Own). x.function) e)

own_at : (types : List Signature) (ts : List ℕ) (fs : List Function) (k : ℕ) (f : Own)
    → slice_get (own_callees types ts fs) k ≡ Some (own_function f)
    → (index : ℕ) × (slice_get ts k ≡ Some index) × (slice_get types index ≡ Some f.signature)
    × (slice_get fs k ≡ Some f.function)
own_at types [] fs k f h = absurd (cc h)
own_at types (t ∷ ts) [] zero f h = absurd (cc h)
own_at types (t ∷ ts) [] (suc k) f h = let r = own_at types ts [] k f h in absurd (cc r.3)
own_at types (t ∷ ts) (g ∷ fs) zero f h =
    let w = own_first g f (slice_get types t) h in (t, refl, w.0, ap (λ (x : Function). Some x) w.1)
own_at types (t ∷ ts) (g ∷ fs) (suc k) f h = own_at types ts fs k f h

imported_not_own : (o : Option Signature) (i : Option Import) (f : Own)
    → Some (imported_callee o i) ≡ Some (own_function f) → ⊥
imported_not_own (Some s) (Some i) f h = absurd (cc h)
imported_not_own (Some s) None f h = absurd (cc h)
imported_not_own None i f h = absurd (cc h)

module _ (types : List Signature) (owns : List Callee) (f : Own) where
  abbrev Among : Type 0
  Among = (k : ℕ) × (slice_get owns k ≡ Some (own_function f))

  past_import : (kind : ImportKind) (name : Option Import) (others : List Callee)
      → ((func : ℕ) → slice_get (others ++ owns) func ≡ Some (own_function f) → Among)
      → (func : ℕ) → slice_get (with_import types kind name others ++ owns) func ≡ Some (own_function f)
      → Among
  past_import (Func t) name others later zero h = absurd (imported_not_own (slice_get types t) name f h)
  past_import (Func t) name others later (suc func) h = later func h
  past_import (Table l) name others later func h = later func h
  past_import (Memory l) name others later func h = later func h
  past_import (Global g) name others later func h = later func h

  past_imports : (is : List Imported) (func : ℕ)
      → slice_get (imported_callees types is ++ owns) func ≡ Some (own_function f) → Among
  past_imports [] func h = (func, h)
  past_imports (i ∷ is) func h =
      past_import i.kind (import_named i.module_name i.name) (imported_callees types is)
      (past_imports is) func h

pub own_bodies_are_typed : OwnBodiesAreTyped
own_bodies_are_typed m func f valid h =
    let p = past_imports m.types (own_callees m.types m.functions m.bodies) f m.imports func h in
    let q = own_at m.types m.functions m.bodies p.0 f p.1 in
    body_typed m p.0 q.0 f.signature f.function valid q.1 q.2 q.3

-- ---- calls

-- a callee's type, where it is one
abbrev IsOf : Signature → Callee → Type 0
IsOf s (own_function f) = f.signature ≡ s
IsOf s (host_function t i) = t ≡ s
IsOf s no_function = Unit {0}

-- what an index names that has a type
abbrev IsNamed : List Callee → ℕ → Signature → Type 0
IsNamed functions func s = (c : Callee) × (slice_get functions func ≡ Some c) × IsOf s c

own_is : (s : Signature) (f : Function) (o : Option Signature) → o ≡ Some s → IsOf s (own_callee o f)
own_is s f None e = tt
own_is s f (Some t) e = cc e

imported_is : (s : Signature) (i : Option Import) (o : Option Signature) → o ≡ Some s
    → IsOf s (imported_callee o i)
imported_is s (Some i) (Some t) e = cc e
imported_is s None (Some t) e = tt
imported_is s i None e = tt

module _ (types : List Signature) (s : Signature) where
  own_named : (ts : List ℕ) (fs : List Function) (k index : ℕ) → slice_get ts k ≡ Some index
      → slice_get types index ≡ Some s → IsNamed (own_callees types ts fs) k s
  own_named [] fs k index h t = absurd (cc h)
  own_named (x ∷ ts) [] zero index h t = (no_function, refl, tt)
  own_named (x ∷ ts) [] (suc k) index h t = own_named ts [] k index h t
  own_named (x ∷ ts) (f ∷ fs) zero index h t =
      let same : index ≡ x = cc (sym h) in (
        own_callee (slice_get types x) f,
        refl,
        own_is s f (slice_get types x)
            (subst (λ (i : ℕ). slice_get types i ≡ Some s) same t),
      )
  own_named (x ∷ ts) (f ∷ fs) (suc k) index h t = own_named ts fs k index h t

  module _ (owns : List Callee) (fs : List ℕ) (index : ℕ) (typed : slice_get types index ≡ Some s) where
    import_named_so : (kind : ImportKind) (name : Option Import) (others : List Callee) (indices : List ℕ)
        → ((func : ℕ) → slice_get (indices ++ fs) func ≡ Some index → IsNamed (others ++ owns) func s)
        → (func : ℕ) → slice_get (cons_option (imported_function kind) indices ++ fs) func ≡ Some index
        → IsNamed (with_import types kind name others ++ owns) func s
    import_named_so (Func t) name others indices later zero h =
        let same : index ≡ t = cc (sym h) in (
          imported_callee (slice_get types t) name,
          refl,
          imported_is s name (slice_get types t) (subst (λ (i : ℕ). slice_get types i ≡ Some s) same typed),
        )
    import_named_so (Func t) name others indices later (suc func) h = later func h
    import_named_so (Table l) name others indices later func h = later func h
    import_named_so (Memory l) name others indices later func h = later func h
    import_named_so (Global g) name others indices later func h = later func h

    imports_named_so : ((k : ℕ) → slice_get fs k ≡ Some index → IsNamed owns k s)
        → (is : List Imported) (func : ℕ)
        → slice_get (filter_map (λ i. imported_function i.kind) is ++ fs) func ≡ Some index
        → IsNamed (imported_callees types is ++ owns) func s
    imports_named_so own [] func h = own func h
    imports_named_so own (i ∷ is) func h =
        import_named_so i.kind (import_named i.module_name i.name) (imported_callees types is)
        (filter_map (λ i. imported_function i.kind) is) (imports_named_so own is) func h

zip_at : {A B : Type 0} (R : A → B → Type 0) (xs : List A) (ys : List B) (k : ℕ) (x : A) → AllZip R xs ys
    → slice_get xs k ≡ Some x → (y : B) × (slice_get ys k ≡ Some y) × R x y
zip_at R [] ys k x all h = absurd (cc h)
zip_at R (z ∷ xs) [] k x all h = absurd all
zip_at R (z ∷ xs) (y ∷ ys) zero x all h =
    let same : z ≡ x = cc h in (y, refl, subst (λ w. R w y) same all.0)
zip_at R (z ∷ xs) (y ∷ ys) (suc k) x all h = zip_at R xs ys k x all.1 h

has_counts : (m : WasmModule) (s : Signature) (callee : Callee) (c : Call) → IsOf s callee → IsCall m callee c
    → HasCounts c (length s.params) (length s.results)
has_counts m s (own_function f) (call.Own type_number start params zeros answers reserve) is k = (
  k.takes ∙ ap (λ (x : Signature). length x.params) is,
  k.gives
      ∙ ap (λ (x : Signature). length x.results) is,
)
has_counts m s (own_function f) (call.Import type_number name params answers) is k = absurd k
has_counts m s (host_function t i) (call.Own type_number start params zeros answers reserve) is k = absurd k
has_counts m s (host_function t i) (call.Import type_number name params answers) is k = (
  k.takes ∙ ap (λ (x : Signature). length x.params) is,
  k.gives
      ∙ ap (λ (x : Signature). length x.results) is,
)
has_counts m s no_function c is k = absurd k

pub calls_are_counted : CallsAreCounted
calls_are_counted m calls func s are h =
    let p = some_and_then (λ index. slice_get m.types index) (slice_get (function_indices m) func) s h in
    let q = imports_named_so m.types s (own_callees m.types m.functions m.bodies) m.functions p.0 p.2
    (λ k f. own_named m.types s m.functions m.bodies k p.0 f p.2) m.imports func p.1 in
    let r = zip_at (IsCall m) (callees m) calls func q.0 are q.1 in
    (r.0, r.1, has_counts m s q.0 r.0 q.2 r.2)
