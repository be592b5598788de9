-- Reading of a module (Core Specification, section 5.5): the preamble, sections in order up to the end,
-- and what they hold.
use Rattle.std.specs.Prelude.{ℕ, ◌==◌, ◌&&◌, if◌then◌else◌, List, [], ◌∷◌, length, Option, Some, None}
use Rattle.w4_defs.specs.declared.value.Limits.{Limits}
use Rattle.w4_defs.specs.Module.{Signature, Imported, Exported, Global, ElementSegment, DataSegment, Function}
use Rattle.w4_defs.specs.Module.{WasmModule}
use Rattle.w4_defs.specs.BinaryModule.{preamble}
use Rattle.w4_defs.specs.Reading.{◌>>=◌}
use Rattle.wasm_read.specs.ReadNumber.{unsigned_at}
use Rattle.wasm_read.specs.ReadType.{limits_at, table_type_at, func_type_at}
use Rattle.wasm_read.specs.ReadPart.{import_at, global_at, export_at, element_at, body_at, segment_at}
use Rattle.wasm_read.specs.ReadSection.{ordered_at, contents_at, part_at, alone_at, is_counted}

-- two values, where both are there
abbrev pub both_some : {A B : Type 0} → Option A → Option B → Option (A × B)
both_some None other = None
both_some (Some x) None = None
both_some (Some x) (Some y) = Some (x, y)

-- the contents of the section with this id
abbrev pub Contents : Type 0
Contents = ℕ → Option (List ℕ)

-- types, imports, functions and tables
abbrev pub Front : Type 0
Front = List Signature × (List Imported × (List ℕ × List Limits))

unfoldable pub front_sections : Contents → Option Front
front_sections c =
    both_some (part_at func_type_at (c 1))
    (both_some (part_at import_at (c 2))
    (both_some (part_at (unsigned_at 32) (c 3)) (part_at table_type_at (c 4))))

-- memories, globals, exports and the start function
abbrev pub Middle : Type 0
Middle = List Limits × (List Global × (List Exported × Option ℕ))

unfoldable pub middle_sections : Contents → Option Middle
middle_sections c =
    both_some (part_at limits_at (c 5))
    (both_some (part_at global_at (c 6))
    (both_some (part_at export_at (c 7)) (alone_at (unsigned_at 32) (c 8))))

-- elements, bodies and data segments
abbrev pub Back : Type 0
Back = List ElementSegment × (List Function × List DataSegment)

unfoldable pub back_sections : Contents → Option Back
back_sections c =
    both_some (part_at element_at (c 9)) (both_some (part_at body_at (c 10)) (part_at segment_at (c 11)))

abbrev pub module_of : Front → Middle → Back → WasmModule
module_of f m b =
    record {
      types = f.0;
      imports = f.1.0;
      functions = f.1.1.0;
      tables = f.1.1.1;
      memories = m.0;
      globals = m.1.0;
      exports = m.1.1.0;
      start = m.1.1.1;
      elements = b.0;
      bodies = b.1.0;
      segments = b.1.1;
    }

-- the module that these contents make, where its counts agree
unfoldable pub module_from : Contents → Option WasmModule
module_from c =
    front_sections c >>= λ f. middle_sections c >>= λ m. back_sections c
    >>= λ b. if (length f.1.1.0 == length b.1.0) && is_counted (c 12) (length b.1.1)
    then Some (module_of f m b) else None

abbrev pub contents_in : List ℕ → Contents
contents_in bytes id = contents_at (length bytes) id bytes

unfoldable pub sections_at : List ℕ → Option WasmModule
sections_at bytes = ordered_at (length bytes) 0 bytes >>= λ last. module_from (contents_in bytes)

-- the bytes after these
abbrev pub after_these : List ℕ → List ℕ → Option (List ℕ)
after_these [] bytes = Some bytes
after_these (c ∷ cs) [] = None
after_these (c ∷ cs) (b ∷ bs) = if b == c then after_these cs bs else None

unfoldable pub module_at : List ℕ → Option WasmModule
module_at bytes = after_these preamble bytes >>= λ rest. sections_at rest
