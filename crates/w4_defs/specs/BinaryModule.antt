-- The text of a module (Core Specification, section 5.5): the preamble and a list of sections up to
-- the end of the bytes. The module collects what the sections hold; custom sections and the data
-- count leave no trace.
use Rattle.std.specs.Prelude.{◌≡◌, ℕ, ◌^◌, ◌<◌, List, [], ◌∷◌, ◌++◌, length}
use Rattle.w4_defs.specs.declared.module.ImportKind.{ImportKind}
use Rattle.w4_defs.specs.declared.module.ImportKind.TheVariants as imports
use Rattle.w4_defs.specs.declared.module.ExportKind.{ExportKind}
use Rattle.w4_defs.specs.declared.module.ExportKind.TheVariants as exports
use Rattle.w4_defs.specs.declared.module.Locals.{Locals}
use Rattle.w4_defs.specs.BinaryText.{Texts, ◌then◌, provided, byte, items}
use Rattle.w4_defs.specs.BinaryNumber.{unsigned}
use Rattle.w4_defs.specs.BinaryType.{vector, sized, bytes, name, value_type, func_type, limits, table_type, global_type}
use Rattle.w4_defs.specs.BinaryInstruction.{expression}
use Rattle.w4_defs.specs.BinarySection.{Section, section, RanksRise, contents, Part, Alone, Counted}
use Rattle.w4_defs.specs.Lookup.{local_count}
use Rattle.w4_defs.specs.Module.{Imported, Exported, Global, ElementSegment, DataSegment, Function, WasmModule}

abbrev pub preamble : List ℕ
preamble = 0x00 ∷ 0x61 ∷ 0x73 ∷ 0x6d ∷ 0x01 ∷ 0x00 ∷ 0x00 ∷ 0x00 ∷ []

abbrev pub import_kind : ImportKind → Texts
import_kind (imports.Func index) = byte 0x00 then unsigned 32 index
import_kind (imports.Table l) = byte 0x01 then table_type l
import_kind (imports.Memory l) = byte 0x02 then limits l
import_kind (imports.Global g) = byte 0x03 then global_type g

abbrev pub imported : Imported → Texts
imported i = name i.module_name then name i.name then import_kind i.kind

abbrev pub global : Global → Texts
global g = global_type g.global then expression g.first

abbrev pub export_kind : ExportKind → Texts
export_kind exports.Func = byte 0x00
export_kind exports.Table = byte 0x01
export_kind exports.Memory = byte 0x02
export_kind exports.Global = byte 0x03

abbrev pub exported : Exported → Texts
exported e = name e.name then export_kind e.kind then unsigned 32 e.index

abbrev pub element : ElementSegment → Texts
element s = unsigned 32 s.table then expression s.offset then vector (unsigned 32) s.functions

abbrev pub locals_run : Locals → Texts
locals_run l = unsigned 32 l.count then value_type l.kind

abbrev pub function : Function → Texts
function f = provided (local_count f.runs < 2 ^ 32) (vector locals_run f.runs then expression f.list)

-- a size and a function of exactly that size
abbrev pub body : Function → Texts
body = sized function

abbrev pub segment : DataSegment → Texts
segment s = unsigned 32 s.memory then expression s.offset then bytes s.bytes

-- the module has what the sections hold, by their ids
pub record Collects (sections : List Section) (m : WasmModule) : Type 0 where
  pub order : RanksRise 0 sections
  pub types : Part func_type (contents 1 sections) m.types
  pub imports : Part imported (contents 2 sections) m.imports
  pub functions : Part (unsigned 32) (contents 3 sections) m.functions
  pub tables : Part table_type (contents 4 sections) m.tables
  pub memories : Part limits (contents 5 sections) m.memories
  pub globals : Part global (contents 6 sections) m.globals
  pub exports : Part exported (contents 7 sections) m.exports
  pub start : Alone (unsigned 32) (contents 8 sections) m.start
  pub elements : Part element (contents 9 sections) m.elements
  pub data_count : Counted (contents 12 sections) (length m.segments)
  pub bodies : Part body (contents 10 sections) m.bodies
  pub segments : Part segment (contents 11 sections) m.segments
  pub as_many : length m.functions ≡ length m.bodies

-- the bytes encode the module
abbrev pub SpellsModule : List ℕ → WasmModule → Type 0
SpellsModule text m =
    (sections : List Section) × (others : List ℕ) × (text ≡ preamble ++ others)
    × items section sections others
    × Collects sections m
