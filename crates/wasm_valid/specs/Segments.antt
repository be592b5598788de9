-- The rules of segments by the counts of a module (Core Specification, section 3.4).
use Rattle.std.specs.Prelude.{◌≡◌, ◌<◌, All}
use Rattle.w4_defs.specs.declared.value.ValType.TheVariants.{I32}
use Rattle.w4_defs.specs.Module.{ElementSegment, DataSegment}
use Rattle.w4_defs.specs.Validity.{IsConstant}
use Rattle.wasm_valid.specs.declared.counts.Counts.{Counts}

abbrev pub IsCountedElement : Counts → ElementSegment → Type 0
IsCountedElement c s =
    (s.table ≡ 0) × (0 < c.tables) × IsConstant I32 s.offset × All (λ func. func < c.functions) s.functions

abbrev pub IsCountedData : Counts → DataSegment → Type 0
IsCountedData c s = (s.memory ≡ 0) × (0 < c.memories) × IsConstant I32 s.offset
