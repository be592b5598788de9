-- What a module within the profile imports: the memory, and functions that have the types of their names; so
-- no table and no global.
use Rattle.std.proofs.Common.{◌≡◌, ◌⊎◌, inl, inr, ℕ, ◌<◌, Bool, true, false, ◌||◌, cond, List, [], ◌∷◌, ◌++◌}
use Rattle.std.proofs.Common.{length, map, Option, Some, None, refl, ap, ◌∙◌, arith, length-append}
use Rattle.std.specs.Prelude.{slice_get, nat_lt, filter_map, IsSome}
use Rattle.std.specs.List.{list_any, cons_option}
use Rattle.std.proofs.lemmas.Bool.{lt-ltb, or_parts, not-false}
use Rattle.w4_defs.specs.declared.value.Limits.{Limits}
use Rattle.w4_defs.specs.declared.console.Import.{Import}
use Rattle.w4_defs.specs.declared.module.ImportKind.{ImportKind}
use Rattle.w4_defs.specs.declared.module.ImportKind.TheVariants.{Func, Table, Memory, Global}
use Rattle.w4_defs.specs.Module.{Signature, Imported, WasmModule}
use Rattle.w4_defs.specs.Lookup.{imported_table, imported_memory, imported_global, tables_of, memories_of}
use Rattle.w4_defs.specs.Lookup.{global_types}
use Rattle.w4_defs.specs.ImportNames.{import_named}
use Rattle.w4_defs.specs.Imports.{import_type}
use Rattle.w4_defs.specs.Profile.{is_memory, is_right, is_right_memory, is_right_function, has_type_of}
use Rattle.w4_defs.specs.Profile.{profile_refusal}
use Rattle.wasm_valid.proofs.ProfileFacts.{is_wrong, no_cause}
use Rattle.wasm_valid.proofs.TypeLaws.{same_signature_is}

-- ---- each import

-- a function import of its name's type
pub record Takes (types : List Signature) (kind : ImportKind) (name : Option Import) : Type 0 where
  pub index : ℕ
  pub import : Import
  pub function : kind ≡ Func index
  pub named : name ≡ Some import
  pub typed : slice_get types index ≡ Some (import_type import)

abbrev pub IsRightImport : List Signature → ImportKind → Option Import → Type 0
IsRightImport types kind name = ((l : Limits) × (kind ≡ Memory l)) ⊎ Takes types kind name

right_memory : (types : List Signature) (kind : ImportKind) (name : Option Import)
    → is_right_memory kind ≡ true
    → IsRightImport types kind name
right_memory types (Memory l) name h = inl (l, refl)
right_memory types (Func index) name h = absurd (cc h)
right_memory types (Table l) name h = absurd (cc h)
right_memory types (Global g) name h = absurd (cc h)

has_type : (name : Import) (o : Option Signature) → has_type_of name o ≡ true → o ≡ Some (import_type name)
has_type name None h = absurd (cc h)
has_type name (Some s) h = ap Some (same_signature_is s (import_type name) h)

right_function : (m : WasmModule) (kind : ImportKind) (name : Option Import)
    → is_right_function m name kind ≡ true → IsRightImport m.types kind name
right_function m (Func index) (Some import) h =
    inr
    (record {
      index = index;
      import = import;
      function = refl;
      named = refl;
      typed = has_type import (slice_get m.types index) h;
    })
right_function m (Func index) None h = absurd (cc h)
right_function m (Memory l) None h = absurd (cc h)
right_function m (Memory l) (Some import) h = absurd (cc h)
right_function m (Table l) None h = absurd (cc h)
right_function m (Table l) (Some import) h = absurd (cc h)
right_function m (Global g) None h = absurd (cc h)
right_function m (Global g) (Some import) h = absurd (cc h)

right_kind : (m : WasmModule) (kind : ImportKind) (name : Option Import) (b : Bool)
    → cond b (is_right_memory kind) (is_right_function m name kind) ≡ true → IsRightImport m.types kind name
right_kind m kind name true h = right_memory m.types kind name h
right_kind m kind name false h = right_function m kind name h

pub right_import : (m : WasmModule) (i : Imported) → is_right m i ≡ true
    → IsRightImport m.types i.kind (import_named i.module_name i.name)
right_import m i h = right_kind m i.kind (import_named i.module_name i.name) (is_memory i) h

-- ---- no table and no global is imported

no_table : (types : List Signature) (kind : ImportKind) (name : Option Import) → IsRightImport types kind name
    → imported_table kind ≡ None
no_table types kind name (inl p) = ap imported_table p.1
no_table types kind name (inr t) = ap imported_table t.function

no_global : (types : List Signature) (kind : ImportKind) (name : Option Import)
    → IsRightImport types kind name
    → imported_global kind ≡ None
no_global types kind name (inl p) = ap imported_global p.1
no_global types kind name (inr t) = ap imported_global t.function

none_imported : {A : Type 0} (f : ImportKind → Option A) (m : WasmModule) (is : List Imported)
    → ((kind : ImportKind) (name : Option Import) → IsRightImport m.types kind name → f kind ≡ None)
    → list_any (is_wrong m) is ≡ false → filter_map (λ i. f i.kind) is ≡ []
none_imported f m [] none h = refl
none_imported f m (i ∷ is) none h =
    let q = or_parts (is_wrong m i) (list_any (is_wrong m) is) h in
    ap (λ o. cons_option o (filter_map (λ i. f i.kind) is))
    (none i.kind (import_named i.module_name i.name) (right_import m i (not-false (is_right m i) q.0)))
    ∙ none_imported f m is none q.1

pub own_tables : (m : WasmModule) → profile_refusal m ≡ None → tables_of m ≡ m.tables
own_tables m h =
    ap (λ ts. ts ++ m.tables)
    (none_imported imported_table m m.imports (no_table m.types) (no_cause m h).imports)

pub own_globals : (m : WasmModule) → profile_refusal m ≡ None → global_types m ≡ map (λ g. g.global) m.globals
own_globals m h =
    ap (λ gs. gs ++ map (λ g. g.global) m.globals)
    (none_imported imported_global m m.imports (no_global m.types) (no_cause m h).imports)

-- ---- the memory is imported

-- the import with the memory's names is a memory
memory_kind : (b : Bool) (kind : ImportKind) (other : Bool) → b ≡ true
    → cond b (is_right_memory kind) other ≡ true
    → IsSome (imported_memory kind)
memory_kind false kind other e h = absurd (cc e)
memory_kind true (Memory l) other e h = refl
memory_kind true (Func index) other e h = absurd (cc h)
memory_kind true (Table l) other e h = absurd (cc h)
memory_kind true (Global g) other e h = absurd (cc h)

counted : {A : Type 0} (o : Option A) (xs : List A) → IsSome o → 0 < length (cons_option o xs)
counted None xs h = absurd (cc h)
counted (Some x) xs h = omega arith

counted_more : {A : Type 0} (o : Option A) (xs : List A) → 0 < length xs → 0 < length (cons_option o xs)
counted_more None xs h = h
counted_more (Some x) xs h = omega arith

memory_among : (m : WasmModule) (i : Imported) (is : List Imported) (b : Bool) → is_memory i ≡ b
    → (b || list_any is_memory is) ≡ true → is_right m i ≡ true
    → (list_any is_memory is ≡ true → 0 < length (filter_map (λ i. imported_memory i.kind) is))
    → 0 < length (filter_map (λ i. imported_memory i.kind) (i ∷ is))
memory_among m i is true e h right later =
    counted (imported_memory i.kind) (filter_map (λ i. imported_memory i.kind) is)
    (memory_kind (is_memory i) i.kind (is_right_function m (import_named i.module_name i.name) i.kind) e
    right)
memory_among m i is false e h right later =
    counted_more (imported_memory i.kind) (filter_map (λ i. imported_memory i.kind) is) (later h)

memories : (m : WasmModule) (is : List Imported) → list_any (is_wrong m) is ≡ false
    → list_any is_memory is ≡ true
    → 0 < length (filter_map (λ i. imported_memory i.kind) is)
memories m [] h e = absurd (cc e)
memories m (i ∷ is) h e =
    let q = or_parts (is_wrong m i) (list_any (is_wrong m) is) h in
    memory_among m i is (is_memory i) refl e (not-false (is_right m i) q.0) (memories m is q.1)

pub has_memory : (m : WasmModule) → profile_refusal m ≡ None → nat_lt 0 (length (memories_of m)) ≡ true
has_memory m h =
    let imported = filter_map (λ i. imported_memory i.kind) m.imports in
    let some : 0 < length imported = memories m m.imports (no_cause m h).imports (no_cause m h).memory in
    lt-ltb 0 (length (memories_of m)) (omega (arith, some, length-append imported m.memories))
