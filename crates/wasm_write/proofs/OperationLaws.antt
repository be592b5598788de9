-- The bytes of an instruction without labels encode it.
use Rattle.std.proofs.Common.{ℕ, ◌^◌, ◌<◌, [], ◌∷◌, ◌++◌, refl, sym, arith}
use Rattle.std.specs.Int.{w32, w64, to_le_bytes}
use Rattle.std.proofs.lemmas.Nat.{from_le_bytes-to_le_bytes_4, from_le_bytes-to_le_bytes_8}
use Rattle.w4_defs.specs.declared.operation.Op.{Op}
use Rattle.w4_defs.specs.declared.operation.Op.TheVariants as op
use Rattle.w4_defs.specs.declared.operation.Op.TheVariants.{Block, Loop, If, Else, End, BrTable, Unreachable}
use Rattle.w4_defs.specs.declared.operation.Op.TheVariants.{Nop, Br, BrIf, Return, Call, CallIndirect, Drop}
use Rattle.w4_defs.specs.declared.operation.Op.TheVariants.{Select, LocalGet, LocalSet, LocalTee, GlobalGet}
use Rattle.w4_defs.specs.declared.operation.Op.TheVariants.{GlobalSet}
use Rattle.w4_defs.specs.declared.basic.Basic.{Basic}
use Rattle.w4_defs.specs.declared.basic.Basic.TheVariants.{F32Const, F64Const, FloatMemory, FloatPlain}
use Rattle.w4_defs.specs.declared.basic.Basic.TheVariants.{FloatCut}
use Rattle.w4_defs.specs.declared.instruction_table.IntegerType.{IntegerType}
use Rattle.w4_defs.specs.declared.instruction_table.IntegerType.TheVariants.{I32, I64}
use Rattle.w4_defs.specs.declared.instruction_table.Row.{Row}
use Rattle.w4_defs.specs.declared.instruction_table.Row.TheVariants.{Const, Load, Store, MemorySize}
use Rattle.w4_defs.specs.declared.instruction_table.Row.TheVariants.{MemoryGrow, MemoryCopy, MemoryFill}
use Rattle.w4_defs.specs.InstructionTable.{opcode, row}
use Rattle.w4_defs.specs.BinaryNumber.{unsigned, little_endian}
use Rattle.w4_defs.specs.BinaryBasic.{immediate, number, shaped, basic}
use Rattle.w4_defs.specs.BinaryInstruction.{operation}
use Rattle.w4_defs.specs.EncodeNumber.{unsigned_bytes}
use Rattle.w4_defs.specs.EncodeInstruction.{immediate_bytes, number_bytes, shaped_bytes, basic_bytes}
use Rattle.w4_defs.specs.EncodeInstruction.{operation_bytes}
use Rattle.wasm_write.specs.Fits.{ImmediateFits, RowFits, BasicFits, OperationFits}
use Rattle.wasm_write.proofs.NumberLaws.{unsigned_encodes, signed_encodes}
use Rattle.wasm_write.proofs.CombineLaws.{two_in_turn}

immediate_encodes : (align offset : ℕ) → ImmediateFits align offset
    → immediate align offset (immediate_bytes align offset)
immediate_encodes align offset h =
    two_in_turn (unsigned 32 align) (unsigned 32 offset) _ _ (unsigned_encodes 32 align h.0)
    (unsigned_encodes 32 offset h.1)

bits32_encode : (bits : ℕ) → bits < 2 ^ 32 → little_endian w32 bits (to_le_bytes w32 bits)
bits32_encode bits h = (refl, sym (from_le_bytes-to_le_bytes_4 bits h))

bits64_encode : (bits : ℕ) → bits < 2 ^ 64 → little_endian w64 bits (to_le_bytes w64 bits)
bits64_encode bits h = (refl, sym (from_le_bytes-to_le_bytes_8 bits h))

number_encodes : (t : IntegerType) (value : ℕ) → RowFits (Const t value)
    → number t value (number_bytes t value)
number_encodes I32 value h = signed_encodes 32 value h
number_encodes I64 value h = signed_encodes 64 value h

shaped_encodes : (code : ℕ) (r : Row) → RowFits r → shaped code r (shaped_bytes code r)
shaped_encodes code (Const t value) h =
    (code ∷ [], number_bytes t value, refl, refl, number_encodes t value h)
shaped_encodes code (Load t bytes sign align offset) h =
    (code ∷ [], immediate_bytes align offset, refl, refl, immediate_encodes align offset h)
shaped_encodes code (Store t bytes align offset) h =
    (code ∷ [], immediate_bytes align offset, refl, refl, immediate_encodes align offset h)
shaped_encodes code MemorySize h = (code ∷ [], 0x00 ∷ [], refl, refl, refl)
shaped_encodes code MemoryGrow h = (code ∷ [], 0x00 ∷ [], refl, refl, refl)
shaped_encodes code MemoryCopy h = (
  code ∷ [],
  unsigned_bytes 10 ++ 0x00 ∷ 0x00 ∷ [],
  refl,
  refl,
  (
    unsigned_bytes 10,
    0x00 ∷ 0x00 ∷ [],
    refl,
    unsigned_encodes 32 10 (omega arith),
    (0x00 ∷ [], 0x00 ∷ [], refl, refl, refl),
  ),
)
shaped_encodes code MemoryFill h = (
  code ∷ [],
  unsigned_bytes 11 ++ 0x00 ∷ [],
  refl,
  refl,
  (unsigned_bytes 11, 0x00 ∷ [], refl, unsigned_encodes 32 11 (omega arith), refl),
)
shaped_encodes code _ h = refl

basic_encodes : (i : Basic) → BasicFits i → basic i (basic_bytes i)
basic_encodes (F32Const bits) h = (0x43 ∷ [], to_le_bytes w32 bits, refl, refl, bits32_encode bits h)
basic_encodes (F64Const bits) h = (0x44 ∷ [], to_le_bytes w64 bits, refl, refl, bits64_encode bits h)
basic_encodes (FloatMemory code align offset) h =
    (h.0, (code ∷ [], immediate_bytes align offset, refl, refl, immediate_encodes align offset h.1))
basic_encodes (FloatPlain code) h = (h, refl)
basic_encodes (FloatCut code) h =
    (h, (0xfc ∷ [], unsigned_bytes code, refl, refl, unsigned_encodes 32 code (omega arith)))
basic_encodes i h = shaped_encodes (opcode i) (row i) h

pub operation_encodes : (op : Op) → OperationFits op → operation op (operation_bytes op)
operation_encodes Unreachable h = refl
operation_encodes Nop h = refl
operation_encodes (Br label) h = (0x0c ∷ [], unsigned_bytes label, refl, refl, unsigned_encodes 32 label h)
operation_encodes (BrIf label) h = (0x0d ∷ [], unsigned_bytes label, refl, refl, unsigned_encodes 32 label h)
operation_encodes Return h = refl
operation_encodes (Call func) h = (0x10 ∷ [], unsigned_bytes func, refl, refl, unsigned_encodes 32 func h)
operation_encodes (CallIndirect signature table) h = (
  0x11 ∷ [],
  unsigned_bytes signature ++ unsigned_bytes table,
  refl,
  refl,
  (
    unsigned_bytes signature,
    unsigned_bytes table,
    refl,
    unsigned_encodes 32 signature h.0,
    unsigned_encodes 32 table h.1,
  ),
)
operation_encodes Drop h = refl
operation_encodes Select h = refl
operation_encodes (LocalGet index) h =
    (0x20 ∷ [], unsigned_bytes index, refl, refl, unsigned_encodes 32 index h)
operation_encodes (LocalSet index) h =
    (0x21 ∷ [], unsigned_bytes index, refl, refl, unsigned_encodes 32 index h)
operation_encodes (LocalTee index) h =
    (0x22 ∷ [], unsigned_bytes index, refl, refl, unsigned_encodes 32 index h)
operation_encodes (GlobalGet index) h =
    (0x23 ∷ [], unsigned_bytes index, refl, refl, unsigned_encodes 32 index h)
operation_encodes (GlobalSet index) h =
    (0x24 ∷ [], unsigned_bytes index, refl, refl, unsigned_encodes 32 index h)
operation_encodes (op.Basic i) h = basic_encodes i h
operation_encodes (Block result end) h = absurd h
operation_encodes (Loop result end) h = absurd h
operation_encodes (If result other end) h = absurd h
operation_encodes Else h = absurd h
operation_encodes End h = absurd h
operation_encodes BrTable h = absurd h
