-- The sections of a module, of which those without items are left out.
use Rattle.std.specs.Prelude.{ℕ, ◌<◌, ◌≤◌, ◌==◌, if◌then◌else◌, List, [], ◌∷◌, Option, Some, None, option_map}
use Rattle.w4_defs.specs.BinarySection.{Section}
use Rattle.w4_defs.specs.Module.{WasmModule}
use Rattle.w4_defs.specs.EncodeNumber.{unsigned_bytes}
use Rattle.w4_defs.specs.EncodeType.{func_type_bytes, limits_bytes, table_type_bytes}
use Rattle.w4_defs.specs.EncodeModule.{imported_bytes, global_bytes, exported_bytes, element_bytes}
use Rattle.w4_defs.specs.EncodeModule.{body_bytes, data_segment_bytes, part}

-- an id, and the contents where there are any
abbrev pub Slot : Type 0
Slot = ℕ × Option (List ℕ)

abbrev pub slots : WasmModule → List Slot
slots m =
    (1, part func_type_bytes m.types)
    ∷ (2, part imported_bytes m.imports)
    ∷ (3, part unsigned_bytes m.functions)
    ∷ (4, part table_type_bytes m.tables)
    ∷ (5, part limits_bytes m.memories)
    ∷ (6, part global_bytes m.globals)
    ∷ (7, part exported_bytes m.exports)
    ∷ (8, option_map unsigned_bytes m.start)
    ∷ (9, part element_bytes m.elements)
    ∷ (10, part body_bytes m.bodies)
    ∷ (11, part data_segment_bytes m.segments)
    ∷ []

abbrev pub added : ℕ → Option (List ℕ) → List Section → List Section
added id None sections = sections
added id (Some contents) sections = (id, contents) ∷ sections

abbrev pub present : List Slot → List Section
present [] = []
present (s ∷ ss) = added s.0 s.1 (present ss)

-- what the slot with this id has
abbrev pub held : ℕ → List Slot → Option (List ℕ)
held id [] = None
held id (s ∷ ss) = if s.0 == id then s.1 else held id ss

-- the ids rise, from above `last`, up to 11
abbrev pub IdsRise : ℕ → List Slot → Type 0
IdsRise last [] = Unit {0}
IdsRise last (s ∷ ss) = (last < s.0) × ((s.0 ≤ 11) × IdsRise s.0 ss)
