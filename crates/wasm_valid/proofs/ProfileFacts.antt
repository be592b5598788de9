-- What holds of a module that the profile lets through: none of the nine causes.
use Rattle.std.proofs.Common.{◌≡◌, ℕ, List, [], ◌∷◌, length, map, cond, Bool, true, false, Option}
use Rattle.std.proofs.Common.{Some, None, refl, sym, subst, ◌∙◌, ap}
use Rattle.std.specs.Prelude.{not, ◌&&◌, ◌||◌, bytes_eq, codes, slice_get, position, zip, option_map}
use Rattle.std.specs.Prelude.{option_and_then, IfSome, IsSome}
use Rattle.std.specs.List.{list_any}
use Rattle.std.proofs.lemmas.Bool.{or_parts, not-false, both_ways}
use Rattle.std.proofs.lemmas.List.Folds.{list_any-append}
use Rattle.std.proofs.lemmas.Slice.Eq.{bytes_eq-Decides}
use Rattle.w4_defs.specs.declared.module.ExportKind.{ExportKind}
use Rattle.w4_defs.specs.declared.module.ExportKind.TheVariants as exports
use Rattle.w4_defs.specs.declared.refusal.ProfileRefusal.TheVariants.{Floats, TooManyLocals, UnknownImport}
use Rattle.w4_defs.specs.declared.refusal.ProfileRefusal.TheVariants.{WrongImport, NoMemory, NoUpdate}
use Rattle.w4_defs.specs.declared.refusal.ProfileRefusal.TheVariants.{WrongEntry, SegmentOutside}
use Rattle.w4_defs.specs.EntryPoints.{if_function, exported_function_in}
use Rattle.w4_defs.specs.Floats.{module_has_float}
use Rattle.w4_defs.specs.Lookup.{signature_of}
use Rattle.w4_defs.specs.Module.{Signature, Imported, Exported, ElementSegment, DataSegment, WasmModule}
use Rattle.w4_defs.specs.Module.{nothing_to_nothing}
use Rattle.w4_defs.specs.Profile.{if_so, causes, profile_refusal, has_many_locals}
use Rattle.w4_defs.specs.Profile.{first_wrong_import, is_known_entry, is_memory, is_update, is_entry_name}
use Rattle.w4_defs.specs.Profile.{is_wrong_entry, is_entry_function, takes_nothing, segments_outside}
use Rattle.w4_defs.specs.Profile.{is_right, exceeds_size, single_constant, table_size}
use Rattle.w4_defs.proofs.CauseLaws.{none_there, not_so}
use Rattle.wasm_valid.proofs.NoneLaws.{none_by_position, any_mapped}
use Rattle.wasm_valid.proofs.TypeLaws.{same_signature_is}

abbrev pub element_passes : WasmModule → ElementSegment → Bool
element_passes m s =
    exceeds_size (single_constant s.offset) (length s.functions) (table_size (slice_get m.tables 0))

abbrev pub data_passes : DataSegment → Bool
data_passes s = exceeds_size (single_constant s.offset) (length s.bytes) 65536

-- whether an import is none that a cart may have
abbrev pub is_wrong : WasmModule → Imported → Bool
is_wrong m i = not (is_right m i)

-- none of the causes
pub record NoCause (m : WasmModule) : Type 0 where
  pub floats : module_has_float m ≡ false
  pub locals : list_any (has_many_locals m) (zip m.functions m.bodies) ≡ false
  pub imports : list_any (is_wrong m) m.imports ≡ false
  pub memory : list_any is_memory m.imports ≡ true
  pub update : list_any is_update m.exports ≡ true
  pub entries_right : list_any (is_wrong_entry m) m.exports ≡ false
  pub elements : list_any (element_passes m) m.elements ≡ false
  pub segments : list_any data_passes m.segments ≡ false

mapped_none : {A B : Type 0} (f : A → B) (o : Option A) → option_map f o ≡ None → o ≡ None
mapped_none f None e = refl
mapped_none f (Some x) e = absurd cc

-- an import that isn't right is one of two refusals
no_wrong : (known : ℕ → Bool) (wrong : Option ℕ)
    → option_and_then (λ k. if_so (not (known k)) (UnknownImport k)) wrong ≡ None
    → option_and_then (λ k. if_so (known k) (WrongImport k)) wrong ≡ None → wrong ≡ None
no_wrong known None e f = refl
no_wrong known (Some k) e f =
    absurd
    (both_ways (known k) (not_so (known k) (WrongImport k) f)
    (not-false (known k) (not_so (not (known k)) (UnknownImport k) e)))

-- no segment is outside: the element segments, and the data segments
none_outside : (m : WasmModule) → position (λ b. b) (segments_outside m) ≡ None
    → (list_any (element_passes m) m.elements ≡ false) × (list_any data_passes m.segments ≡ false)
none_outside m e =
    let elements = map (element_passes m) m.elements in
    let segments = map data_passes m.segments in
    let h =
    or_parts (list_any (λ b. b) elements) (list_any (λ b. b) segments)
    (sym (list_any-append (λ b. b) elements segments) ∙ none_by_position (λ b. b) (segments_outside m) e) in
    (sym (any_mapped (element_passes m) m.elements) ∙ h.0, sym (any_mapped data_passes m.segments) ∙ h.1)

pub no_cause : (m : WasmModule) → profile_refusal m ≡ None → NoCause m
no_cause m e =
    let known : ℕ → Bool = λ k. is_known_entry (slice_get m.imports k) in
    let wrong =
    no_wrong known (first_wrong_import m) (none_there (causes m) 3 _ e refl)
    (none_there (causes m) 4 _ e refl) in
    let within = none_outside m (mapped_none SegmentOutside _ (none_there (causes m) 8 _ e refl)) in record {
      floats = not_so (module_has_float m) Floats (none_there (causes m) 0 _ e refl);
      locals = not_so _ TooManyLocals (none_there (causes m) 1 _ e refl);
      imports = none_by_position (is_wrong m) m.imports wrong;
      memory =
          not-false _ (not_so (not (list_any is_memory m.imports)) NoMemory
          (none_there (causes m) 5 _ e refl));
      update =
          not-false _ (not_so (not (list_any is_update m.exports)) NoUpdate
          (none_there (causes m) 6 _ e refl));
      entries_right = not_so (list_any (is_wrong_entry m) m.exports) WrongEntry
          (none_there (causes m) 7 _ e refl);
      elements = within.0;
      segments = within.1;
    }

-- ---- the entry functions

takes_none : (o : Option Signature) → takes_nothing o ≡ true → o ≡ Some nothing_to_nothing
takes_none None e = absurd cc
takes_none (Some s) e = ap Some (same_signature_is s nothing_to_nothing e)

-- an exported function that the console calls
entry_of_kind : (m : WasmModule) (e : Exported) (kind : ExportKind) → is_entry_function m kind e.index ≡ true
    → (if_function e kind ≡ Some e.index) × (signature_of m e.index ≡ Some nothing_to_nothing)
entry_of_kind m e exports.Func h = (refl, takes_none _ h)
entry_of_kind m e exports.Table h = absurd cc
entry_of_kind m e exports.Memory h = absurd cc
entry_of_kind m e exports.Global h = absurd cc

right_entry : (named right : Bool) → (named && not right) ≡ false → named ≡ true → right ≡ true
right_entry true right h e = not-false right h
right_entry false right h e = absurd cc

-- what is found under an entry point's name
abbrev pub Found : WasmModule → Option ℕ → Type 0
Found m o = IfSome o (λ f. signature_of m f ≡ Some nothing_to_nothing)

found_here : (m : WasmModule) (f : ℕ) (o : Option ℕ) → (o ≡ Some f)
    × (signature_of m f ≡ Some nothing_to_nothing)
    → Found m o
found_here m f o h = subst (Found m) (sym h.0) h.1

found_from : (m : WasmModule) (e : Exported) (rest : Option ℕ) (name : List ℕ) (b : Bool)
    → b ≡ bytes_eq e.name name → is_entry_name name ≡ true → is_wrong_entry m e ≡ false
    → Found m rest → Found m (cond b (if_function e e.kind) rest)
found_from m e rest name true eb entry_named right h =
    let same : e.name ≡ name = (bytes_eq-Decides e.name name).0 (sym eb) in
    found_here m e.index _ (entry_of_kind m e e.kind (right_entry _ _ right
    (ap is_entry_name same ∙ entry_named)))
found_from m e rest name false eb entry_named right h = h

pub found : (m : WasmModule) (es : List Exported) (name : List ℕ) → is_entry_name name ≡ true
    → list_any (is_wrong_entry m) es ≡ false → Found m (exported_function_in es name)
found m [] name entry_named h = tt
found m (e ∷ es) name entry_named h =
    let p = or_parts _ _ h in
    found_from m e (exported_function_in es name) name _ refl entry_named p.0
    (found m es name entry_named p.1)

there_from : (m : WasmModule) (e : Exported) (rest : Option ℕ) (later : Bool) (b : Bool)
    → b ≡ bytes_eq e.name (codes "update") → is_wrong_entry m e ≡ false
    → (b || later) ≡ true → (later ≡ true → IsSome rest) → IsSome (cond b (if_function e e.kind) rest)
there_from m e rest later true eb right some h =
    let same : e.name ≡ codes "update" = (bytes_eq-Decides e.name (codes "update")).0 (sym eb) in
    let p = entry_of_kind m e e.kind (right_entry _ _ right (ap is_entry_name same)) in
    subst (λ (o : Option ℕ). IsSome o) (sym p.0) refl
there_from m e rest later false eb right some h = h some

-- what is found in a list of exports by the name of an entry point
pub entry_point_found : (m : WasmModule) (es : List Exported) (name : List ℕ) (o : Option ℕ)
    → profile_refusal m ≡ None → es ≡ m.exports → is_entry_name name ≡ true → o ≡ exported_function_in es name
    → Found m o
entry_point_found m es name o none ee entry_named e =
    subst (Found m) (sym (e ∙ ap (λ xs. exported_function_in xs name) ee))
    (found m m.exports name entry_named (no_cause m none).entries_right)

pub update_there : (m : WasmModule) (es : List Exported) → list_any is_update es ≡ true
    → list_any (is_wrong_entry m) es ≡ false → IsSome (exported_function_in es (codes "update"))
update_there m [] some h = absurd cc
update_there m (e ∷ es) some h =
    let p = or_parts _ _ h in
    there_from m e (exported_function_in es (codes "update")) (list_any is_update es) _ refl p.0 some
    (λ s. update_there m es s p.1)

pub update_found : (m : WasmModule) (es : List Exported) (o : Option ℕ) → profile_refusal m ≡ None
    → es ≡ m.exports → o ≡ exported_function_in es (codes "update") → IsSome o
update_found m es o none ee e =
    let n = no_cause m none in
    subst (λ (x : Option ℕ). IsSome x) (sym (e ∙ ap (λ xs. exported_function_in xs (codes "update")) ee))
    (update_there m m.exports n.update n.entries_right)
