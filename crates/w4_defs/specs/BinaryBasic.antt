-- Numeric and memory instructions (Core Specification, section 5.4: "Memory Instructions" and "Numeric
-- Instructions", with the additions of Core 2.0), by their codes and shapes. After the prefix fc stands a
-- number. The float instructions of many codes have those alone that the standard gives them.
use Rattle.std.specs.Prelude.{◌≡◌, ℕ, ◌≤◌, ◌⊎◌}
use Rattle.std.specs.Int.{w32, w64}
use Rattle.w4_defs.specs.declared.basic.Basic.{Basic}
use Rattle.w4_defs.specs.declared.basic.Basic.TheVariants.{F32Const, F64Const, FloatMemory, FloatPlain, FloatCut}
use Rattle.w4_defs.specs.declared.instruction_table.IntegerType.{IntegerType}
use Rattle.w4_defs.specs.declared.instruction_table.IntegerType.TheVariants.{I32, I64}
use Rattle.w4_defs.specs.declared.instruction_table.Row.{Row}
use Rattle.w4_defs.specs.declared.instruction_table.Row.TheVariants.{Const, Load, Store, MemorySize, MemoryGrow, MemoryCopy, MemoryFill}
use Rattle.w4_defs.specs.InstructionTable.{opcode, row}
use Rattle.w4_defs.specs.BinaryText.{Texts, ◌then◌, provided, byte}
use Rattle.w4_defs.specs.BinaryNumber.{unsigned, signed, little_endian}

-- the codes of the float instructions of one byte, without those that access a memory
abbrev pub IsFloatCode : ℕ → Type 0
IsFloatCode code =
    ((0x5b ≤ code) × (code ≤ 0x66)) ⊎ ((0x8b ≤ code) × (code ≤ 0xa6)) ⊎ ((0xa8 ≤ code) × (code ≤ 0xab))
    ⊎ ((0xae ≤ code) × (code ≤ 0xbf))

-- f32.load, f64.load, f32.store, f64.store
abbrev pub IsFloatAccess : ℕ → Type 0
IsFloatAccess code = (code ≡ 0x2a) ⊎ (code ≡ 0x2b) ⊎ (code ≡ 0x38) ⊎ (code ≡ 0x39)

-- the exponent of the alignment, and the offset
abbrev pub immediate : ℕ → ℕ → Texts
immediate align offset = unsigned 32 align then unsigned 32 offset

abbrev pub number : IntegerType → ℕ → Texts
number I32 value = signed 32 value
number I64 value = signed 64 value

-- a code, and what stands after it
abbrev pub shaped : ℕ → Row → Texts
shaped code (Const t value) = byte code then number t value
shaped code (Load t bytes sign align offset) = byte code then immediate align offset
shaped code (Store t bytes align offset) = byte code then immediate align offset
shaped code MemorySize = byte code then byte 0x00
shaped code MemoryGrow = byte code then byte 0x00
shaped code MemoryCopy = byte code then unsigned 32 10 then byte 0x00 then byte 0x00
shaped code MemoryFill = byte code then unsigned 32 11 then byte 0x00
shaped code _ = byte code

abbrev pub basic : Basic → Texts
basic (F32Const bits) = byte 0x43 then little_endian w32 bits
basic (F64Const bits) = byte 0x44 then little_endian w64 bits
basic (FloatMemory code align offset) = provided (IsFloatAccess code) (byte code then immediate align offset)
basic (FloatPlain code) = provided (IsFloatCode code) (byte code)
basic (FloatCut code) = provided (code ≤ 7) (byte 0xfc then unsigned 32 code)
basic i = shaped (opcode i) (row i)
