-- What the functions and the table of an accepted module name: typed bodies, and imports of their types.
use Rattle.std.proofs.Common.{◌≡◌, ℕ, zero, suc, ◌+◌, ◌<◌, List, [], ◌∷◌, length, replicate, get_or, Option}
use Rattle.std.proofs.Common.{Some, None, slice_set, refl, sym, ap, ◌∙◌, subst, arith}
use Rattle.std.specs.Prelude.{slice_get, All}
use Rattle.std.specs.List.{list_any}
use Rattle.std.proofs.lemmas.Bool.{or_parts}
use Rattle.std.proofs.lemmas.List.Elements.{All-head, All-tail}
use Rattle.std.proofs.lemmas.Option.{slice_get-get_or, slice_get_within}
use Rattle.w4_defs.specs.declared.value.Limits.{Limits}
use Rattle.w4_defs.specs.Module.{Signature, Function, ElementSegment, WasmModule, nothing_to_nothing}
use Rattle.w4_defs.specs.Lookup.{function_indices, signature_of, local_types}
use Rattle.w4_defs.specs.Floats.{is_float, has_float, function_has_float}
use Rattle.w4_defs.specs.Profile.{profile_refusal}
use Rattle.w4_defs.specs.Typing.{HasType, body_context}
use Rattle.w4_defs.specs.Validity.{IsElementSegment, IsValid}
use Rattle.w4_defs.specs.Program.{own_function, own_callee, own_callees, callees, zeros, constant_of}
use Rattle.w4_defs.specs.Program.{put_functions, fill_table, empty_table, program}
use Rattle.w4_defs.specs.Outcome.{HostFunctions}
use Rattle.w4_defs.specs.RunLaws.{types_of}
use Rattle.w4_defs.specs.TypeSoundness.{AnswersByType}
use Rattle.wasm_valid.proofs.OperandTypeLaws.{some_and_then, some_then}
use Rattle.wasm_valid.proofs.BodyLaws.{free}
use Rattle.wasm_valid.proofs.NoneLaws.{none_at}
use Rattle.wasm_valid.proofs.ProfileFacts.{no_cause}
use Rattle.wasm_valid.proofs.TypedValues.{zeros_typed}
use Rattle.wasm_valid.proofs.TypedCalls.{Linked}
use Rattle.wasm_valid.proofs.TypedImports.{AllNamed, imports_named}

-- ---- own functions

-- where there are as many bodies as functions, each function has one
own_found : (types : List Signature) (fs : List ℕ) (bs : List Function) (k index : ℕ) (s : Signature)
    → length fs ≡ length bs → slice_get fs k ≡ Some index → slice_get types index ≡ Some s
    → (f : Function) × (slice_get bs k ≡ Some f)
    × (slice_get (own_callees types fs bs) k ≡ Some (own_function (record { signature = s; function = f })))
own_found types [] bs k index s as_many_bodies h t = absurd (cc h)
own_found types (x ∷ fs) [] k index s as_many_bodies h t = absurd (omega (arith, as_many_bodies))
own_found types (x ∷ fs) (f ∷ bs) zero index s as_many_bodies h t =
    let same : index ≡ x = cc (sym h) in
    (f, refl, ap (λ o. Some (own_callee o f)) (subst (λ i. slice_get types i ≡ Some s) same t))
own_found types (x ∷ fs) (f ∷ bs) (suc k) index s as_many_bodies h t =
    own_found types fs bs k index s (omega (arith, as_many_bodies)) h t

pub body_typed : (m : WasmModule) (k index : ℕ) (s : Signature) (f : Function) → IsValid m
    → slice_get m.functions k ≡ Some index → slice_get m.types index ≡ Some s → slice_get m.bodies k ≡ Some f
    → HasType (body_context m s f) f.list [] s.results
body_typed m k index s f valid h t g =
    let p = valid.1 k (slice_get_within m.bodies k f g) in
    let same_index : p.0 ≡ index = cc (sym p.2 ∙ h) in
    let same_body : p.1 ≡ f = cc (sym p.3 ∙ g) in
    let found : slice_get m.types index ≡ Some p.4.0 =
    subst (λ i. slice_get m.types i ≡ Some p.4.0) same_index p.4.1 in
    let same_type : p.4.0 ≡ s = cc (sym found ∙ t) in
    subst (λ x. HasType (body_context m x f) f.list [] x.results) same_type
    (subst (λ x. HasType (body_context m p.4.0 x) x.list [] p.4.0.results) same_body p.4.2)

body_zeros : (m : WasmModule) (k : ℕ) (f : Function) → profile_refusal m ≡ None
    → slice_get m.bodies k ≡ Some f
    → types_of (zeros f.runs) ≡ local_types f.runs
body_zeros m k f h g =
    zeros_typed f.runs (or_parts (list_any (λ run. is_float run.kind) f.runs) (has_float f.list)
    (none_at function_has_float m.bodies k f (free m (no_cause m h).floats).bodies g)).0

owns_named : (m : WasmModule) → profile_refusal m ≡ None → IsValid m → length m.functions ≡ length m.bodies
    → AllNamed m (own_callees m.types m.functions m.bodies) m.functions
owns_named m profile valid as_many_bodies k s h =
    let p = some_and_then (λ index. slice_get m.types index) (slice_get m.functions k) s h in
    let q = own_found m.types m.functions m.bodies k p.0 s as_many_bodies p.1 p.2 in
    record {
      named = record {
        callee = own_function (record { signature = s; function = q.0 });
        found = q.2;
        ready = (body_typed m k p.0 s q.0 valid p.1 p.2 q.1, body_zeros m k q.0 profile q.1);
      };
      signature = refl;
    }

pub all_named : (m : WasmModule) → profile_refusal m ≡ None → IsValid m → length m.functions ≡ length m.bodies
    → AllNamed m (callees m) (function_indices m)
all_named m profile valid as_many_bodies =
    imports_named m (own_callees m.types m.functions m.bodies) m.functions m.imports
    (no_cause m profile).imports
    (owns_named m profile valid as_many_bodies)

-- ---- the table

-- each element that is filled is an index below this bound
abbrev Filled : ℕ → List (Option ℕ) → Type 0
Filled bound table = (i func : ℕ) → slice_get table i ≡ Some (Some func) → func < bound

filled_set : (bound : ℕ) (table : List (Option ℕ)) (at f : ℕ) → f < bound → Filled bound table
    → Filled bound (slice_set table at (Some f))
filled_set bound [] at f less k i func h = k i func h
filled_set bound (x ∷ table) zero f less k zero func h = let same : f ≡ func = cc h in omega (arith, same)
filled_set bound (x ∷ table) zero f less k (suc i) func h = k (suc i) func h
filled_set bound (x ∷ table) (suc at) f less k zero func h = k zero func h
filled_set bound (x ∷ table) (suc at) f less k (suc i) func h =
    filled_set bound table at f less (λ i func h. k (suc i) func h) i func h

filled_put : (bound : ℕ) (table : List (Option ℕ)) (at : ℕ) (fs : List ℕ) → All (λ f. f < bound) fs
    → Filled bound table → Filled bound (put_functions table at fs)
filled_put bound table at [] all k = k
filled_put bound table at (f ∷ fs) all k =
    filled_put bound (slice_set table at (Some f)) (at + 1) fs (All-tail (λ f. f < bound) f fs all)
    (filled_set bound table at f (All-head (λ f. f < bound) f fs all) k)

filled_table : (m : WasmModule) (table : List (Option ℕ)) (es : List ElementSegment)
    → All (IsElementSegment m) es → Filled (length (function_indices m)) table
    → Filled (length (function_indices m)) (fill_table table es)
filled_table m table [] all k = k
filled_table m table (e ∷ es) all k =
    filled_table m (put_functions table (constant_of e.offset) e.functions) es
    (All-tail (IsElementSegment m) e es all)
    (filled_put (length (function_indices m)) table (constant_of e.offset) e.functions
    (All-head (IsElementSegment m) e es all).3 k)

filled_nothing : (bound n : ℕ) → Filled bound (replicate n None)
filled_nothing bound zero i func h = absurd (cc h)
filled_nothing bound (suc n) zero func h = absurd (cc h)
filled_nothing bound (suc n) (suc i) func h = filled_nothing bound n i func h

filled_empty : (bound : ℕ) (tables : List Limits) → Filled bound (empty_table tables)
filled_empty bound [] i func h = absurd (cc h)
filled_empty bound (l ∷ ls) i func h = filled_nothing bound l.least i func h

-- a function that exists has a type, since its index does
has_signature : (m : WasmModule) (func : ℕ) → IsValid m → func < length (function_indices m)
    → (s : Signature) × (signature_of m func ≡ Some s)
has_signature m func valid less =
    let index : ℕ = get_or (function_indices m) func 0 in
    let s : Signature = get_or m.types index nothing_to_nothing in (
      s,
      some_then (λ index. slice_get m.types index) (slice_get (function_indices m) func) index s
          (slice_get-get_or (function_indices m) func 0 less)
          (slice_get-get_or m.types index nothing_to_nothing (valid.0.functions func 0 less)),
    )

-- ---- the program

pub linked : {H : Type 0} (m : WasmModule) (imports : HostFunctions H) → profile_refusal m ≡ None → IsValid m
    → length m.functions ≡ length m.bodies → AnswersByType imports → Linked m (program m imports)
linked m imports profile valid as_many_bodies answers = record {
  types = refl;
  functions = all_named m profile valid as_many_bodies;
  table_typed = λ i func h.
      let less =
      filled_table m (empty_table m.tables) m.elements valid.0.elements
      (filled_empty (length (function_indices m)) m.tables) i func h in
      let p = has_signature m func valid less in
      (all_named m profile valid as_many_bodies func p.0 p.1).named;
  answers = answers;
  one_table = valid.0.one_table;
}
