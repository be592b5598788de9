-- The console's profile (project rules): nine causes for which a module is refused, in their order. The
-- first that holds is the answer.
use Rattle.std.specs.Prelude.{ℕ, ◌+◌, Bool, true, false, not, ◌&&◌, ◌||◌, nat_lt, nat_le, if◌then◌else◌, List, [], ◌∷◌, ◌++◌, length, map, zip, position, slice_get, codes, bytes_eq, Option, Some, None, is_some, option_map, option_and_then}
use Rattle.std.specs.List.{list_any}
use Rattle.w4_defs.specs.declared.value.Limits.{Limits}
use Rattle.w4_defs.specs.declared.operation.Op.{Op}
use Rattle.w4_defs.specs.declared.console.Import.{Import}
use Rattle.w4_defs.specs.declared.module.ImportKind.{ImportKind}
use Rattle.w4_defs.specs.declared.module.ImportKind.TheVariants.{Func, Memory}
use Rattle.w4_defs.specs.declared.module.ExportKind.{ExportKind}
use Rattle.w4_defs.specs.declared.module.ExportKind.TheVariants as exports
use Rattle.w4_defs.specs.declared.refusal.ProfileRefusal.{ProfileRefusal}
use Rattle.w4_defs.specs.declared.refusal.ProfileRefusal.TheVariants.{Floats, TooManyLocals, TableTooLarge, UnknownImport, WrongImport, NoMemory, NoUpdate, WrongEntry, SegmentOutside}
use Rattle.w4_defs.specs.Tree.{Expr}
use Rattle.w4_defs.specs.Constants.{const_value, expression_value, i32_number}
use Rattle.w4_defs.specs.Module.{Signature, Imported, Exported, Function, WasmModule, nothing_to_nothing}
use Rattle.w4_defs.specs.Lookup.{signature_of, local_count}
use Rattle.w4_defs.specs.ValueTypes.{same_signature}
use Rattle.w4_defs.specs.ImportNames.{import_named}
use Rattle.w4_defs.specs.Imports.{import_module, memory_name, import_type}
use Rattle.w4_defs.specs.Floats.{module_has_float}

-- parameters count 0 where the type index names no type
abbrev pub param_count : Option Signature → ℕ
param_count None = 0
param_count (Some s) = length s.params

-- whether an own function, with its type index, has more than 1,024 parameters and locals together
abbrev pub has_many_locals : WasmModule → ℕ × Function → Bool
has_many_locals m own = nat_lt 1024 (param_count (slice_get m.types own.0) + local_count own.1.runs)

-- whether an import has the two names of the memory
abbrev pub is_memory : Imported → Bool
is_memory i = bytes_eq i.module_name import_module && bytes_eq i.name memory_name

abbrev pub is_known : Imported → Bool
is_known i = is_memory i || is_some (import_named i.module_name i.name)

-- whether the type is there, and is the import's
abbrev pub has_type_of : Import → Option Signature → Bool
has_type_of name None = false
has_type_of name (Some s) = same_signature s (import_type name)

-- a function import is right where its kind is function and its type index names the type of its name
abbrev pub is_right_function : WasmModule → Option Import → ImportKind → Bool
is_right_function m (Some name) (Func index) = has_type_of name (slice_get m.types index)
is_right_function m _ _ = false

abbrev pub is_one_or_more : Option ℕ → Bool
is_one_or_more None = true
is_one_or_more (Some greatest) = nat_le 1 greatest

-- a memory import is right where its kind is memory, its least size is at most 1, and its greatest is absent
-- or at least 1
abbrev pub is_right_memory : ImportKind → Bool
is_right_memory (Memory l) = nat_le l.least 1 && is_one_or_more l.greatest
is_right_memory _ = false

abbrev pub is_right : WasmModule → Imported → Bool
is_right m i =
    if is_memory i then is_right_memory i.kind
    else is_right_function m (import_named i.module_name i.name) i.kind

abbrev pub first_wrong_import : WasmModule → Option ℕ
first_wrong_import m = position (λ i. not (is_right m i)) m.imports

abbrev pub is_known_entry : Option Imported → Bool
is_known_entry None = false
is_known_entry (Some i) = is_known i

abbrev pub if_so : Bool → ProfileRefusal → Option ProfileRefusal
if_so true refusal = Some refusal
if_so false refusal = None

abbrev pub unknown_import : WasmModule → Option ProfileRefusal
unknown_import m =
    option_and_then (λ k. if_so (not (is_known_entry (slice_get m.imports k))) (UnknownImport k))
    (first_wrong_import m)

abbrev pub wrong_import : WasmModule → Option ProfileRefusal
wrong_import m =
    option_and_then (λ k. if_so (is_known_entry (slice_get m.imports k)) (WrongImport k))
    (first_wrong_import m)

abbrev pub is_update : Exported → Bool
is_update e = bytes_eq e.name (codes "update")

-- the names of the functions that the console calls
abbrev pub is_entry_name : List ℕ → Bool
is_entry_name name =
    bytes_eq name (codes "update") || bytes_eq name (codes "_start") || bytes_eq name (codes "_initialize")
    || bytes_eq name (codes "start")

-- whether the type is there, without parameters and results
abbrev pub takes_nothing : Option Signature → Bool
takes_nothing None = false
takes_nothing (Some s) = same_signature s nothing_to_nothing

abbrev pub is_entry_function : WasmModule → ExportKind → ℕ → Bool
is_entry_function m exports.Func index = takes_nothing (signature_of m index)
is_entry_function m _ index = false

abbrev pub is_wrong_entry : WasmModule → Exported → Bool
is_wrong_entry m e = is_entry_name e.name && not (is_entry_function m e.kind e.index)

-- the number of an i32.const
abbrev pub i32_constant : Op → Option ℕ
i32_constant op = option_and_then i32_number (const_value op)

-- the number of an expression that is a single i32.const
abbrev pub single_constant : Expr → Option ℕ
single_constant e = option_and_then i32_number (expression_value e)

-- whether so many items from a constant offset on pass the size; an offset of another form fits
abbrev pub exceeds_size : Option ℕ → ℕ → ℕ → Bool
exceeds_size None count size = false
exceeds_size (Some offset) count size = nat_lt size (offset + count)

-- the least size of the first own table, or 0 where there is none
abbrev pub table_size : Option Limits → ℕ
table_size None = 0
table_size (Some l) = l.least

-- whether each segment is outside, the element segments first
abbrev pub segments_outside : WasmModule → List Bool
segments_outside m =
    map (λ s. exceeds_size (single_constant s.offset) (length s.functions)
    (table_size (slice_get m.tables 0))) m.elements
    ++ map (λ s. exceeds_size (single_constant s.offset) (length s.bytes) 65536) m.segments

-- each cause that holds, as its refusal
abbrev pub causes : WasmModule → List (Option ProfileRefusal)
causes m =
    if_so (module_has_float m) Floats
    ∷ if_so (list_any (has_many_locals m) (zip m.functions m.bodies)) TooManyLocals
    ∷ if_so (list_any (λ l. nat_lt 65536 l.least) m.tables) TableTooLarge
    ∷ unknown_import m
    ∷ wrong_import m
    ∷ if_so (not (list_any is_memory m.imports)) NoMemory
    ∷ if_so (not (list_any is_update m.exports)) NoUpdate
    ∷ if_so (list_any (is_wrong_entry m) m.exports) WrongEntry
    ∷ option_map SegmentOutside (position (λ b. b) (segments_outside m))
    ∷ []

abbrev pub first_cause : List (Option ProfileRefusal) → Option ProfileRefusal
first_cause [] = None
first_cause (None ∷ others) = first_cause others
first_cause (Some refusal ∷ others) = Some refusal

-- the refusal of a module, or None where it has none of the nine causes
abbrev pub profile_refusal : WasmModule → Option ProfileRefusal
profile_refusal m = first_cause (causes m)
