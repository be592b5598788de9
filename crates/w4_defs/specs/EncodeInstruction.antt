-- The bytes of instructions, every number in its shortest encoding (Core Specification, section 5.4, with the
-- additions of Core 2.0): those of numbers and of memory by their codes and shapes, as in the grammar, the
-- others a row for each instruction. The writer is asked only for modules that have a text by the grammar.
use Rattle.std.specs.Prelude.{ℕ, ◌-◌, List, [], ◌∷◌, ◌++◌, length, flat_map}
use Rattle.std.specs.Int.{w32, w64, to_le_bytes}
use Rattle.w4_defs.specs.declared.operation.Op.{Op}
use Rattle.w4_defs.specs.declared.operation.Op.TheVariants as op
use Rattle.w4_defs.specs.declared.operation.Op.TheVariants.{BrTable, Unreachable, Nop, Br, BrIf, Return, Call, CallIndirect, Drop, Select, LocalGet, LocalSet, LocalTee, GlobalGet, GlobalSet}
use Rattle.w4_defs.specs.declared.basic.Basic.{Basic}
use Rattle.w4_defs.specs.declared.basic.Basic.TheVariants.{F32Const, F64Const, FloatMemory, FloatPlain, FloatCut}
use Rattle.w4_defs.specs.declared.instruction_table.IntegerType.{IntegerType}
use Rattle.w4_defs.specs.declared.instruction_table.IntegerType.TheVariants.{I32, I64}
use Rattle.w4_defs.specs.declared.instruction_table.Row.{Row}
use Rattle.w4_defs.specs.declared.instruction_table.Row.TheVariants.{Const, Load, Store, MemorySize, MemoryGrow, MemoryCopy, MemoryFill}
use Rattle.w4_defs.specs.InstructionTable.{opcode, row}
use Rattle.w4_defs.specs.Tree.{Mark, Expr, done, plain, block, loop, if_then, if_else}
use Rattle.w4_defs.specs.EncodeNumber.{unsigned_bytes, signed_bytes}
use Rattle.w4_defs.specs.EncodeType.{block_type_code}

abbrev pub immediate_bytes : ℕ → ℕ → List ℕ
immediate_bytes align offset = unsigned_bytes align ++ unsigned_bytes offset

abbrev pub number_bytes : IntegerType → ℕ → List ℕ
number_bytes I32 value = signed_bytes 32 value
number_bytes I64 value = signed_bytes 64 value

-- a code, and what stands after it
abbrev pub shaped_bytes : ℕ → Row → List ℕ
shaped_bytes code (Const t value) = code ∷ number_bytes t value
shaped_bytes code (Load t bytes sign align offset) = code ∷ immediate_bytes align offset
shaped_bytes code (Store t bytes align offset) = code ∷ immediate_bytes align offset
shaped_bytes code MemorySize = code ∷ 0x00 ∷ []
shaped_bytes code MemoryGrow = code ∷ 0x00 ∷ []
shaped_bytes code MemoryCopy = code ∷ unsigned_bytes 10 ++ 0x00 ∷ 0x00 ∷ []
shaped_bytes code MemoryFill = code ∷ unsigned_bytes 11 ++ 0x00 ∷ []
shaped_bytes code _ = code ∷ []

abbrev pub basic_bytes : Basic → List ℕ
basic_bytes (F32Const bits) = 0x43 ∷ to_le_bytes w32 bits
basic_bytes (F64Const bits) = 0x44 ∷ to_le_bytes w64 bits
basic_bytes (FloatMemory code align offset) = code ∷ immediate_bytes align offset
basic_bytes (FloatPlain code) = code ∷ []
basic_bytes (FloatCut code) = 0xfc ∷ unsigned_bytes code
basic_bytes i = shaped_bytes (opcode i) (row i)

abbrev pub operation_bytes : Op → List ℕ
operation_bytes Unreachable = 0x00 ∷ []
operation_bytes Nop = 0x01 ∷ []
operation_bytes (Br label) = 0x0c ∷ unsigned_bytes label
operation_bytes (BrIf label) = 0x0d ∷ unsigned_bytes label
operation_bytes Return = 0x0f ∷ []
operation_bytes (Call func) = 0x10 ∷ unsigned_bytes func
operation_bytes (CallIndirect signature table) = 0x11 ∷ unsigned_bytes signature ++ unsigned_bytes table
operation_bytes Drop = 0x1a ∷ []
operation_bytes Select = 0x1b ∷ []
operation_bytes (LocalGet index) = 0x20 ∷ unsigned_bytes index
operation_bytes (LocalSet index) = 0x21 ∷ unsigned_bytes index
operation_bytes (LocalTee index) = 0x22 ∷ unsigned_bytes index
operation_bytes (GlobalGet index) = 0x23 ∷ unsigned_bytes index
operation_bytes (GlobalSet index) = 0x24 ∷ unsigned_bytes index
operation_bytes (op.Basic i) = basic_bytes i
operation_bytes _ = []

-- the labels of a br_table: how many there are before the default, those, and the default, the last of them
abbrev pub labels_bytes : List ℕ → List ℕ
labels_bytes labels = unsigned_bytes (length labels - 1) ++ flat_map unsigned_bytes labels

abbrev pub labelled_bytes : Op → List ℕ → List ℕ
labelled_bytes BrTable labels = 0x0e ∷ labels_bytes labels
labelled_bytes op labels = operation_bytes op

abbrev pub instruction_bytes : Mark → List ℕ
instruction_bytes m = labelled_bytes m.0 m.1

-- a list of instructions, and the byte that closes it
unfoldable pub list_bytes : ℕ → Expr → List ℕ
list_bytes close done = close ∷ []
list_bytes close (plain m rest) = instruction_bytes m ++ list_bytes close rest
list_bytes close (block r inner rest) =
    0x02 ∷ block_type_code r ∷ (list_bytes 0x0b inner ++ list_bytes close rest)
list_bytes close (loop r inner rest) =
    0x03 ∷ block_type_code r ∷ (list_bytes 0x0b inner ++ list_bytes close rest)
list_bytes close (if_then r taken rest) =
    0x04 ∷ block_type_code r ∷ (list_bytes 0x0b taken ++ list_bytes close rest)
list_bytes close (if_else r taken other rest) =
    0x04 ∷ block_type_code r ∷ (list_bytes 0x05 taken ++ (list_bytes 0x0b other ++ list_bytes close rest))

abbrev pub expression_bytes : Expr → List ℕ
expression_bytes e = list_bytes 0x0b e
