-- The bytes of a module (Core Specification, section 5.5): the preamble, and the sections that have entries,
-- in the order of their ids, every number in its shortest encoding. No data count section is written.
use Rattle.std.specs.Prelude.{ℕ, List, [], ◌∷◌, ◌++◌, Option, Some, None, option_map}
use Rattle.w4_defs.specs.declared.module.ImportKind.{ImportKind}
use Rattle.w4_defs.specs.declared.module.ImportKind.TheVariants as imports
use Rattle.w4_defs.specs.declared.module.ExportKind.{ExportKind}
use Rattle.w4_defs.specs.declared.module.ExportKind.TheVariants as exports
use Rattle.w4_defs.specs.declared.module.Locals.{Locals}
use Rattle.w4_defs.specs.BinaryModule.{preamble}
use Rattle.w4_defs.specs.Module.{Imported, Exported, Global, ElementSegment, DataSegment, Function, WasmModule}
use Rattle.w4_defs.specs.EncodeNumber.{unsigned_bytes}
use Rattle.w4_defs.specs.EncodeType.{vector_bytes, sized_bytes, value_type_code, func_type_bytes, limits_bytes, table_type_bytes, global_type_bytes}
use Rattle.w4_defs.specs.EncodeInstruction.{expression_bytes}

abbrev pub import_kind_bytes : ImportKind → List ℕ
import_kind_bytes (imports.Func index) = 0x00 ∷ unsigned_bytes index
import_kind_bytes (imports.Table l) = 0x01 ∷ table_type_bytes l
import_kind_bytes (imports.Memory l) = 0x02 ∷ limits_bytes l
import_kind_bytes (imports.Global g) = 0x03 ∷ global_type_bytes g

abbrev pub imported_bytes : Imported → List ℕ
imported_bytes i = sized_bytes i.module_name ++ sized_bytes i.name ++ import_kind_bytes i.kind

abbrev pub global_bytes : Global → List ℕ
global_bytes g = global_type_bytes g.global ++ expression_bytes g.first

abbrev pub export_kind_code : ExportKind → ℕ
export_kind_code exports.Func = 0x00
export_kind_code exports.Table = 0x01
export_kind_code exports.Memory = 0x02
export_kind_code exports.Global = 0x03

abbrev pub exported_bytes : Exported → List ℕ
exported_bytes e = sized_bytes e.name ++ export_kind_code e.kind ∷ [] ++ unsigned_bytes e.index

abbrev pub element_bytes : ElementSegment → List ℕ
element_bytes s =
    unsigned_bytes s.table ++ expression_bytes s.offset ++ vector_bytes unsigned_bytes s.functions

abbrev pub locals_bytes : Locals → List ℕ
locals_bytes l = unsigned_bytes l.count ++ value_type_code l.kind ∷ []

abbrev pub function_bytes : Function → List ℕ
function_bytes f = vector_bytes locals_bytes f.runs ++ expression_bytes f.list

abbrev pub body_bytes : Function → List ℕ
body_bytes f = sized_bytes (function_bytes f)

abbrev pub data_segment_bytes : DataSegment → List ℕ
data_segment_bytes s = unsigned_bytes s.memory ++ expression_bytes s.offset ++ sized_bytes s.bytes

-- the contents of the section of these items, if there are any
abbrev pub part : {A : Type 0} → (A → List ℕ) → List A → Option (List ℕ)
part encode [] = None
part encode (x ∷ xs) = Some (vector_bytes encode (x ∷ xs))

-- a section, if it has contents
abbrev pub section_bytes : ℕ → Option (List ℕ) → List ℕ
section_bytes id None = []
section_bytes id (Some contents) = id ∷ sized_bytes contents

-- the sections 1 to 6
unfoldable pub first_sections : WasmModule → List ℕ
first_sections m =
    section_bytes 1 (part func_type_bytes m.types)
    ++ section_bytes 2 (part imported_bytes m.imports)
    ++ section_bytes 3 (part unsigned_bytes m.functions)
    ++ section_bytes 4 (part table_type_bytes m.tables)
    ++ section_bytes 5 (part limits_bytes m.memories)
    ++ section_bytes 6 (part global_bytes m.globals)

-- the sections 7 to 11
unfoldable pub last_sections : WasmModule → List ℕ
last_sections m =
    section_bytes 7 (part exported_bytes m.exports)
    ++ section_bytes 8 (option_map unsigned_bytes m.start)
    ++ section_bytes 9 (part element_bytes m.elements)
    ++ section_bytes 10 (part body_bytes m.bodies)
    ++ section_bytes 11 (part data_segment_bytes m.segments)

unfoldable pub module_bytes : WasmModule → List ℕ
module_bytes m = preamble ++ first_sections m ++ last_sections m
