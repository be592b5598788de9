-- The calls of a module, one after the other.
use Rattle.std.proofs.Common.{◌≡◌, inl, inr, ℕ, zero, suc, ◌+◌, ◌<◌, ◌≤◌, List, [], ◌∷◌, ◌++◌, length, take}
use Rattle.std.proofs.Common.{get_or, Bool, true, false, Option, Some, None, refl, sym, subst, ◌∙◌, ap}
use Rattle.std.proofs.Common.{append_assoc, arith}
use Rattle.std.specs.Prelude.{not, nat_eq, IfSome, slice_get, option_map, nat_lt, zip, All}
use Rattle.std.specs.List.{AllZip, count_by}
use Rattle.std.proofs.lemmas.Bool.{not-false}
use Rattle.std.proofs.lemmas.Bool.Decides.{nat_tests}
use Rattle.std.proofs.lemmas.List.{take_more}
use Rattle.std.proofs.lemmas.Option.{same_Some, slice_get-get_or}
use Rattle.w4_defs.specs.declared.console.Import.{Import}
use Rattle.w4_defs.specs.declared.console.Import.TheVariants as import
use Rattle.w4_defs.specs.declared.module.ImportKind.{ImportKind}
use Rattle.w4_defs.specs.declared.module.ImportKind.TheVariants.{Func, Table, Memory, Global}
use Rattle.w4_defs.specs.declared.module.Locals.{Locals}
use Rattle.w4_defs.specs.Imports.{import_type}
use Rattle.w4_defs.specs.ImportNames.{import_named}
use Rattle.w4_defs.specs.Lookup.{local_count, imported_function}
use Rattle.w4_defs.specs.Module.{Signature, Function, Imported, WasmModule}
use Rattle.w4_defs.specs.Profile.{profile_refusal, has_many_locals, param_count, is_right}
use Rattle.w4_defs.specs.Program.{instructions, Callee, own_function, host_function, own_callee, own_callees}
use Rattle.w4_defs.specs.Program.{imported_callee, imported_callees, with_import}
use Rattle.wasm_tree.specs.Layout.{marks, IsBody, StandsAt}
use Rattle.wasm_tree.proofs.MarkLaws.{got_all}
use Rattle.wasm_valid.specs.declared.call.Call.{Call}
use Rattle.wasm_valid.specs.declared.call.Call.TheVariants as call
use Rattle.w4_defs.specs.declared.operation.Op.{Op}
use Rattle.w4_defs.specs.declared.operation.Op.TheVariants.{End}
use Rattle.w4_defs.specs.Flattening.{IsProper}
use Rattle.w4_defs.specs.Validity.{KeepsModuleRules}
use Rattle.wasm_valid.specs.Instructions.{is_instruction}
use Rattle.wasm_valid.proofs.InstructionLaws.{counted_at}
use Rattle.wasm_valid.proofs.DecideLaws.{all_parted}
use Rattle.wasm_valid.specs.Calls.{number_of_type, result_count, IsCall, AreCalls, IsTypeAt, IsCallAt}
use Rattle.wasm_valid.proofs.NoneLaws.{none_at}
use Rattle.wasm_valid.proofs.ProfileFacts.{is_wrong, no_cause}
use Rattle.wasm_valid.proofs.ProfileLaws.{IsRightImport, right_import}

pub zip_joined : {A B : Type 0} (R : A → B → Type 0) (xs us : List A) (ys vs : List B) → AllZip R xs ys
    → AllZip R us vs → AllZip R (xs ++ us) (ys ++ vs)
zip_joined R [] us [] vs h k = k
zip_joined R [] us (y ∷ ys) vs h k = absurd h
zip_joined R (x ∷ xs) us [] vs h k = absurd h
zip_joined R (x ∷ xs) us (y ∷ ys) vs h k = (h.0, zip_joined R xs us ys vs h.1 k)

with_joined : (types : List Signature) (kind : ImportKind) (i : Option Import) (xs ys : List Callee)
    → with_import types kind i (xs ++ ys) ≡ with_import types kind i xs ++ ys
with_joined types (Func t) i xs ys = refl
with_joined types (Table l) i xs ys = refl
with_joined types (Memory l) i xs ys = refl
with_joined types (Global g) i xs ys = refl

imported_joined : (types : List Signature) (xs ys : List Imported)
    → imported_callees types (xs ++ ys) ≡ imported_callees types xs ++ imported_callees types ys
imported_joined types [] ys = refl
imported_joined types (x ∷ xs) ys =
    ap (with_import types x.kind (import_named x.module_name x.name)) (imported_joined types xs ys)
    ∙ with_joined types x.kind (import_named x.module_name x.name) (imported_callees types xs)
    (imported_callees types ys)

-- one more import
pub imports_more : (m : WasmModule) (i : ℕ) (x : Imported) (more calls next : List Call)
    → i < length m.imports → x ≡ get_or m.imports i x → next ≡ calls ++ more
    → AreCalls m (imported_callees m.types (x ∷ [])) more
    → AreCalls m (imported_callees m.types (take i m.imports)) calls
    → AreCalls m (imported_callees m.types (take (i + 1) m.imports)) next
imports_more m i x more calls next h at e one so_far =
    let list : imported_callees m.types (take i m.imports) ++ imported_callees m.types (x ∷ [])
    ≡ imported_callees m.types (take (i + 1) m.imports) =
    sym (imported_joined m.types (take i m.imports) (x ∷ []))
    ∙ ap (λ y. imported_callees m.types (take i m.imports ++ y ∷ [])) at
    ∙ ap (imported_callees m.types) (sym (take_more m.imports i x h)) in
    subst (λ (cs : List Call). AreCalls m (imported_callees m.types (take (i + 1) m.imports)) cs) (sym e)
    (subst (λ (xs : List Callee). AreCalls m xs (calls ++ more)) list
    (zip_joined (IsCall m) _ _ calls more so_far one))

no_call_of : (m : WasmModule) (kind : ImportKind) (i : Option Import) → ((index : ℕ) → kind ≡ Func index → ⊥)
    → AreCalls m (with_import m.types kind i []) []
no_call_of m (Func index) i h = absurd (h index refl)
no_call_of m (Table l) i h = tt
no_call_of m (Memory l) i h = tt
no_call_of m (Global g) i h = tt

-- an import that isn't a function has no call
pub no_call : (m : WasmModule) (x : Imported) → ((index : ℕ) → x.kind ≡ Func index → ⊥)
    → AreCalls m (imported_callees m.types (x ∷ [])) []
no_call m x h = no_call_of m x.kind (import_named x.module_name x.name) h

-- what a function import is that the profile lets through
pub record IsFunctionImport (m : WasmModule) (x : Imported) (index : ℕ) : Type 0 where
  pub name : Import
  pub named : import_named x.module_name x.name ≡ Some name
  pub typed : slice_get m.types index ≡ Some (import_type name)

function_kind : (m : WasmModule) (x : Imported) (index : ℕ) → x.kind ≡ Func index
    → IsRightImport m.types x.kind (import_named x.module_name x.name) → IsFunctionImport m x index
function_kind m x index e (inl p) = absurd (cc (sym p.1 ∙ e))
function_kind m x index e (inr t) =
    let same : t.index ≡ index = cc (sym t.function ∙ e) in
    let typed = subst (λ k. slice_get m.types k ≡ Some (import_type t.import)) same t.typed in
    record { name = t.import; named = t.named; typed = typed }

pub function_import : (m : WasmModule) (x : Imported) (index : ℕ) → x.kind ≡ Func index → is_right m x ≡ true
    → IsFunctionImport m x index
function_import m x index e h = function_kind m x index e (right_import m x h)

pub import_right : (m : WasmModule) (i : ℕ) (x : Imported) → profile_refusal m ≡ None
    → slice_get m.imports i ≡ Some x → is_right m x ≡ true
import_right m i x none e =
    not-false (is_right m x) (none_at (is_wrong m) m.imports i x (no_cause m none).imports e)

-- the one callee of a function import
pub import_callee : (m : WasmModule) (x : Imported) (index : ℕ) (name : Import) (call : Call)
    → x.kind ≡ Func index → import_named x.module_name x.name ≡ Some name
    → slice_get m.types index ≡ Some (import_type name)
    → IsCall m (host_function (import_type name) name) call
    → AreCalls m (imported_callees m.types (x ∷ [])) (call ∷ [])
import_callee m x index name call ek en et h =
    let list : host_function (import_type name) name ∷ [] ≡ imported_callees m.types (x ∷ []) =
    sym (ap (λ o. imported_callee o (Some name) ∷ []) et)
    ∙ sym (ap (λ o. imported_callee (slice_get m.types index) o ∷ []) en)
    ∙ sym (ap (λ k. with_import m.types k (import_named x.module_name x.name) []) ek) in
    subst (λ (xs : List Callee). AreCalls m xs (call ∷ [])) list (h, tt)

own_step : (types : List Signature) (fs : List ℕ) (bs : List Function) (i index : ℕ) (f : Function)
    → slice_get fs i ≡ Some index → slice_get bs i ≡ Some f
    → own_callees types (take (suc i) fs) (take (suc i) bs)
    ≡ own_callees types (take i fs) (take i bs) ++ own_callee (slice_get types index) f ∷ []
own_step types [] bs i index f ef eb = absurd cc
own_step types (k ∷ fs) [] i index f ef eb = absurd cc
own_step types (k ∷ fs) (b ∷ bs) zero index f ef eb =
    ap (λ n. own_callee (slice_get types n) b ∷ []) (same_Some _ _ ef)
    ∙ ap (λ g. own_callee (slice_get types index) g ∷ []) (same_Some _ _ eb)
own_step types (k ∷ fs) (b ∷ bs) (suc i) index f ef eb =
    ap (λ xs. own_callee (slice_get types k) b ∷ xs) (own_step types fs bs i index f ef eb)

-- one more own function
pub own_more : (m : WasmModule) (front : List Callee) (i : ℕ) (call : Call) (calls next : List Call)
    → IsCallAt m i call → next ≡ calls ++ call ∷ []
    → AreCalls m (front ++ own_callees m.types (take i m.functions) (take i m.bodies)) calls
    → AreCalls m (front ++ own_callees m.types (take (i + 1) m.functions) (take (i + 1) m.bodies)) next
own_more m front i call calls next at e so_far =
    let c : Callee = own_function (record { signature = at.signature; function = at.function }) in
    let before : List Callee = own_callees m.types (take i m.functions) (take i m.bodies) in
    let list : (front ++ before) ++ c ∷ []
    ≡ front ++ own_callees m.types (take (i + 1) m.functions) (take (i + 1) m.bodies) =
    append_assoc front before (c ∷ [])
    ∙ ap (λ o. front ++ (before ++ own_callee o at.function ∷ [])) (sym at.typed)
    ∙ ap (λ xs. front ++ xs)
    (sym (own_step m.types m.functions m.bodies i at.index at.function at.indexed at.there))
    ∙ ap (λ n. front ++ own_callees m.types (take n m.functions) (take n m.bodies)) {x = suc i}
    (omega arith) in
    subst (λ (cs : List Call). AreCalls m
    (front ++ own_callees m.types (take (i + 1) m.functions) (take (i + 1) m.bodies)) cs) (sym e)
    (subst (λ (xs : List Callee). AreCalls m xs (calls ++ call ∷ [])) list
    (zip_joined (IsCall m) (front ++ before) (c ∷ []) calls (call ∷ []) so_far (at.called, tt)))

-- parameters and locals of an own function are few
flag_at : (m : WasmModule) (fs : List ℕ) (bs : List Function) (i index : ℕ) (f : Function)
    → slice_get fs i ≡ Some index → slice_get bs i ≡ Some f → slice_get (zip fs bs) i ≡ Some (index, f)
flag_at m [] bs i index f ef eb = absurd cc
flag_at m (k ∷ fs) [] i index f ef eb = absurd cc
flag_at m (k ∷ fs) (b ∷ bs) zero index f ef eb =
    ap (λ n. Some (n, b)) (same_Some _ _ ef) ∙ ap (λ g. Some (index, g)) (same_Some _ _ eb)
flag_at m (k ∷ fs) (b ∷ bs) (suc i) index f ef eb = flag_at m fs bs i index f ef eb

pub few_locals : (m : WasmModule) (i index : ℕ) (s : Signature) (f : Function) → profile_refusal m ≡ None
    → slice_get m.functions i ≡ Some index → slice_get m.types index ≡ Some s
    → slice_get m.bodies i ≡ Some f → length s.params + local_count f.runs ≤ 1024
few_locals m i index s f none ef es eb =
    let flag : nat_lt 1024 (param_count (slice_get m.types index) + local_count f.runs) ≡ false =
    none_at (has_many_locals m) (zip m.functions m.bodies) i (index, f) (no_cause m none).locals
    (flag_at m m.functions m.bodies i index f ef eb) in
    let known : nat_lt 1024 (length s.params + local_count f.runs) ≡ false =
    sym (ap (λ o. nat_lt 1024 (param_count o + local_count f.runs)) es) ∙ flag in
    grind (arith, nat_tests)

-- the type index of each own function names a type
pub own_index_below : (m : WasmModule) (fs : List ℕ) (func : ℕ) → KeepsModuleRules m → fs ≡ m.functions
    → func < length fs → get_or fs func 0 < length m.types
own_index_below m fs func rules e h =
    let all =
    (all_parted (λ i. imported_function i.kind) (λ index. index < length m.types) m.imports m.functions
    rules.functions).1 in
    subst (λ (xs : List ℕ). All (λ index. index < length m.types) xs) (sym e) all func 0 h

pub own_type_at : (m : WasmModule) (fs : List ℕ) (ts : List Signature) (func : ℕ) (s : Signature)
    → fs ≡ m.functions → ts ≡ m.types → func < length fs → get_or fs func 0 < length ts
    → s ≡ get_or ts (get_or fs func 0) s → IsTypeAt m func s
own_type_at m fs ts func s ef et h k e = record {
  index = get_or fs func 0;
  indexed = ap (λ xs. slice_get xs func) (sym ef) ∙ slice_get-get_or fs func 0 h;
  typed =
      ap (λ xs. slice_get xs (get_or fs func 0)) (sym et) ∙ slice_get-get_or ts (get_or fs func 0) s k
      ∙ ap Some (sym e);
}

few_at : (m : WasmModule) (func : ℕ) (s : Signature) (o : Option Function) (runs : List Locals)
    → profile_refusal m ≡ None → IsTypeAt m func s → slice_get m.bodies func ≡ o
    → option_map (λ f. f.runs) o ≡ Some runs → length s.params + local_count runs ≤ 1024
few_at m func s None runs none t eo er = absurd cc
few_at m func s (Some f) runs none t eo er =
    omega (arith, few_locals m func t.index s f none t.indexed t.typed eo, ap local_count (same_Some _ _ er))

pub few_runs : (m : WasmModule) (func : ℕ) (s : Signature) (runs : List Locals) → profile_refusal m ≡ None
    → IsTypeAt m func s
    → option_map (λ f. f.runs) (slice_get m.bodies func) ≡ Some runs
    → length s.params + local_count runs ≤ 1024
few_runs m func s runs none t er = few_at m func s (slice_get m.bodies func) runs none t refl er

-- the call of an own function, from what its readers give
-- a type of flat code has at most one result
pub few_results : (m : WasmModule) (func : ℕ) (s : Signature) → All (λ t. length t.results ≤ 1) m.types
    → IsTypeAt m func s
    → length s.results ≤ 1
few_results m func s all t =
    subst (λ (o : Option Signature). IfSome o (λ t. length t.results ≤ 1)) t.typed
    (got_all (λ t. length t.results ≤ 1) m.types t.index all)

-- so that whether it has none says how many it has
pub gives_of : (empty : Bool) (n : ℕ) → empty ≡ nat_eq n 0 → n ≤ 1 → result_count (not empty) ≡ n
gives_of empty zero e h = ap (λ b. result_count (not b)) e
gives_of empty (suc zero) e h = ap (λ b. result_count (not b)) e
gives_of empty (suc (suc n)) e h = absurd (omega (arith, h))

own_call_of : (m : WasmModule) (func : ℕ) (s : Signature) (o : Option Function) (runs : List Locals)
    (ops : List Op) (kind start params others count reserve : ℕ) (answers : Bool)
    → IsTypeAt m func s → slice_get m.bodies func ≡ o → option_map (λ f. f.runs) o ≡ Some runs → IsBody o ops
    → IfSome o (λ f. IsProper f.list) → StandsAt (marks m) start o
    → kind ≡ number_of_type m.types s → params ≡ length s.params → others ≡ local_count runs
    → result_count answers ≡ length s.results → count ≡ count_by is_instruction ops
    → reserve ≡ params + others + count
    → IsCallAt m func (call.Own kind start params others answers reserve)
own_call_of m func s None runs ops kind start params others count reserve answers t eo er body proper stands
    ek ep ez ea ec e =
    absurd body
own_call_of m func s (Some f) runs ops kind start params others count reserve answers t eo er body proper
    stands ek ep ez ea ec e =
    let listed : count ≡ instructions f.list =
    ec ∙ ap (count_by is_instruction) body.1 ∙ counted_at End refl body.0 f.list proper in
    let zeroed : others ≡ local_count f.runs = ez ∙ ap local_count (sym (same_Some _ _ er)) in record {
      index = t.index;
      signature = s;
      function = f;
      indexed = t.indexed;
      typed = t.typed;
      there = eo;
      called = record {
        numbered = ek;
        takes = ep;
        zeroed = zeroed;
        gives = ea;
        reserves = omega (arith, e, ep, zeroed, listed);
        stands = stands;
        proper = proper;
      };
    }

pub own_call_is : (m : WasmModule) (func : ℕ) (s : Signature) (runs : List Locals) (ops : List Op)
    (kind start params others count reserve : ℕ) (answers : Bool)
    → IsTypeAt m func s → option_map (λ f. f.runs) (slice_get m.bodies func) ≡ Some runs
    → IsBody (slice_get m.bodies func) ops → IfSome (slice_get m.bodies func) (λ f. IsProper f.list)
    → StandsAt (marks m) start (slice_get m.bodies func)
    → kind ≡ number_of_type m.types s → params ≡ length s.params → others ≡ local_count runs
    → result_count answers ≡ length s.results → count ≡ count_by is_instruction ops
    → reserve ≡ params + others + count
    → IsCallAt m func (call.Own kind start params others answers reserve)
own_call_is m func s runs ops kind start params others count reserve answers t er body proper stands ek ep ez
    ea ec e =
    own_call_of m func s (slice_get m.bodies func) runs ops kind start params others count reserve answers t
    refl er body proper stands ek ep ez ea ec e

-- an import has one result at most
import_gives : (name : Import) (empty : Bool) → empty ≡ nat_eq (length (import_type name).results) 0
    → result_count (not empty) ≡ length (import_type name).results
import_gives import.Blit empty e = ap (λ b. result_count (not b)) e
import_gives import.BlitSub empty e = ap (λ b. result_count (not b)) e
import_gives import.Line empty e = ap (λ b. result_count (not b)) e
import_gives import.Hline empty e = ap (λ b. result_count (not b)) e
import_gives import.Vline empty e = ap (λ b. result_count (not b)) e
import_gives import.Oval empty e = ap (λ b. result_count (not b)) e
import_gives import.Rect empty e = ap (λ b. result_count (not b)) e
import_gives import.Text empty e = ap (λ b. result_count (not b)) e
import_gives import.TextUtf8 empty e = ap (λ b. result_count (not b)) e
import_gives import.TextUtf16 empty e = ap (λ b. result_count (not b)) e
import_gives import.Tone empty e = ap (λ b. result_count (not b)) e
import_gives import.Diskr empty e = ap (λ b. result_count (not b)) e
import_gives import.Diskw empty e = ap (λ b. result_count (not b)) e
import_gives import.Trace empty e = ap (λ b. result_count (not b)) e
import_gives import.TraceUtf8 empty e = ap (λ b. result_count (not b)) e
import_gives import.TraceUtf16 empty e = ap (λ b. result_count (not b)) e
import_gives import.Tracef empty e = ap (λ b. result_count (not b)) e

pub import_call_is : (m : WasmModule) (x : Imported) (index : ℕ) (name : Import) (s : Signature)
    (kind params : ℕ) (empty : Bool)
    → x.kind ≡ Func index → is_right m x ≡ true → import_named x.module_name x.name ≡ Some name
    → slice_get m.types index ≡ Some s
    → kind ≡ number_of_type m.types s → params ≡ length s.params → empty ≡ nat_eq (length s.results) 0
    → AreCalls m (imported_callees m.types (x ∷ [])) (call.Import kind name params (not empty) ∷ [])
import_call_is m x index name s kind params empty ek right en es ekind ep ee =
    let f = function_import m x index ek right in
    let same : f.name ≡ name = same_Some _ _ (sym f.named ∙ en) in
    let typed : slice_get m.types index ≡ Some (import_type name) =
    f.typed ∙ ap (λ n. Some (import_type n)) same in
    let is : s ≡ import_type name = same_Some _ _ (sym es ∙ typed) in
    import_callee m x index name (call.Import kind name params (not empty)) ek en typed (record {
      numbered = ekind ∙ ap (number_of_type m.types) is;
      named = refl;
      typed = refl;
      takes = ep ∙ ap (λ t. length t.params) is;
      gives = import_gives name empty (ee ∙ ap (λ t. nat_eq (length t.results) 0) is);
    })
