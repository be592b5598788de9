-- The callees of the imported functions of an accepted module have their types.
use Rattle.std.proofs.Common.{◌≡◌, inl, inr, ℕ, zero, suc, false, List, [], ◌∷◌, ◌++◌, Option, Some}
use Rattle.std.proofs.Common.{option_and_then, refl, sym, ap, ◌∙◌, subst}
use Rattle.std.specs.Prelude.{slice_get, filter_map}
use Rattle.std.specs.List.{list_any, cons_option}
use Rattle.std.proofs.lemmas.Bool.{or_parts, not-false}
use Rattle.w4_defs.specs.declared.console.Import.{Import}
use Rattle.w4_defs.specs.declared.module.ImportKind.{ImportKind}
use Rattle.w4_defs.specs.declared.module.ImportKind.TheVariants.{Func, Table, Memory, Global}
use Rattle.w4_defs.specs.Module.{Signature, Imported, WasmModule}
use Rattle.w4_defs.specs.Lookup.{imported_function}
use Rattle.w4_defs.specs.ImportNames.{import_named}
use Rattle.w4_defs.specs.Imports.{import_type}
use Rattle.w4_defs.specs.Profile.{is_right}
use Rattle.w4_defs.specs.Program.{Callee, host_function, imported_callee, with_import, imported_callees}
use Rattle.wasm_valid.proofs.ProfileFacts.{is_wrong}
use Rattle.wasm_valid.proofs.ProfileLaws.{Takes, IsRightImport, right_import}
use Rattle.wasm_valid.proofs.TypedCalls.{Named, NamedAs}

abbrev pub type_at : WasmModule → Option ℕ → Option Signature
type_at m o = option_and_then (λ index. slice_get m.types index) o

-- each index names a callee of its type
abbrev pub AllNamed : WasmModule → List Callee → List ℕ → Type 0
AllNamed m functions indices =
    (func : ℕ) (s : Signature) → type_at m (slice_get indices func) ≡ Some s → NamedAs m functions func s

later : (m : WasmModule) (callee : Callee) (functions : List Callee) (func : ℕ) (s : Signature)
    → NamedAs m functions func s → NamedAs m (callee ∷ functions) (suc func) s
later m callee functions func s n =
    let named : Named m (callee ∷ functions) (suc func) =
    record { callee = n.named.callee; found = n.named.found; ready = n.named.ready } in
    record { named = named; signature = n.signature }

function_named : (m : WasmModule) (index : ℕ) (name : Option Import) (functions : List Callee)
    (indices : List ℕ) → Takes m.types (Func index) name → AllNamed m functions indices
    → AllNamed m (imported_callee (slice_get m.types index) name ∷ functions) (index ∷ indices)
function_named m index name functions indices t rest zero s e =
    let same : t.index ≡ index = cc t.function in
    let typed : slice_get m.types index ≡ Some (import_type t.import) =
    subst (λ k. slice_get m.types k ≡ Some (import_type t.import)) same t.typed in
    let callee : imported_callee (slice_get m.types index) name ≡ host_function (import_type t.import)
    t.import =
    ap (λ o. imported_callee o name) typed ∙ ap (imported_callee (Some (import_type t.import))) t.named in
    record {
      named = record {
        callee = host_function (import_type t.import) t.import;
        found = ap Some callee;
        ready = refl;
      };
      signature = cc (sym typed ∙ e);
    }
function_named m index name functions indices t rest (suc func) s e =
    later m (imported_callee (slice_get m.types index) name) functions func s (rest func s e)

import_named_right : (m : WasmModule) (kind : ImportKind) (name : Option Import)
    (others owns : List Callee) (indices fs : List ℕ) → IsRightImport m.types kind name
    → AllNamed m (others ++ owns) (indices ++ fs)
    → AllNamed m (with_import m.types kind name others ++ owns)
    (cons_option (imported_function kind) indices ++ fs)
import_named_right m (Func index) name others owns indices fs (inl p) rest = absurd (cc p.1)
import_named_right m (Func index) name others owns indices fs (inr t) rest =
    function_named m index name (others ++ owns) (indices ++ fs) t rest
import_named_right m (Memory l) name others owns indices fs r rest = rest
import_named_right m (Table l) name others owns indices fs r rest = rest
import_named_right m (Global g) name others owns indices fs r rest = rest

pub imports_named : (m : WasmModule) (owns : List Callee) (fs : List ℕ) (is : List Imported)
    → list_any (is_wrong m) is ≡ false → AllNamed m owns fs
    → AllNamed m (imported_callees m.types is ++ owns) (filter_map (λ i. imported_function i.kind) is ++ fs)
imports_named m owns fs [] h rest = rest
imports_named m owns fs (i ∷ is) h rest =
    let q = or_parts (is_wrong m i) (list_any (is_wrong m) is) h in
    let name : Option Import = import_named i.module_name i.name in
    import_named_right m i.kind name (imported_callees m.types is) owns
    (filter_map (λ i. imported_function i.kind) is) fs
    (right_import m i (not-false (is_right m i) q.0)) (imports_named m owns fs is q.1 rest)
