-- Rows of the instruction table, each a code and its instruction (Core Specification, section 5.4, in its
-- order): first those without anything after the code, then those with an index, then those that access the
-- memory. The codes of basic instructions are the definition's.
use Rattle.std.specs.Prelude.{ℕ, List, [], ◌∷◌, map}
use Rattle.w4_defs.specs.declared.operation.Op.{Op}
use Rattle.w4_defs.specs.declared.operation.Op.TheVariants.{Unreachable, Nop, Return, Drop, Select, Br, BrIf}
use Rattle.w4_defs.specs.declared.operation.Op.TheVariants.{Call, LocalGet, LocalSet, LocalTee, GlobalGet}
use Rattle.w4_defs.specs.declared.operation.Op.TheVariants.{GlobalSet}
use Rattle.w4_defs.specs.declared.basic.Basic.{Basic}
use Rattle.w4_defs.specs.declared.basic.Basic.TheVariants.{I32Eqz, I32Eq, I32Ne, I32LtS, I32LtU, I32GtS}
use Rattle.w4_defs.specs.declared.basic.Basic.TheVariants.{I32GtU, I32LeS, I32LeU, I32GeS, I32GeU, I64Eqz}
use Rattle.w4_defs.specs.declared.basic.Basic.TheVariants.{I64Eq, I64Ne, I64LtS, I64LtU, I64GtS, I64GtU}
use Rattle.w4_defs.specs.declared.basic.Basic.TheVariants.{I64LeS, I64LeU, I64GeS, I64GeU, I32Clz, I32Ctz}
use Rattle.w4_defs.specs.declared.basic.Basic.TheVariants.{I32Popcnt, I32Add, I32Sub, I32Mul, I32DivS}
use Rattle.w4_defs.specs.declared.basic.Basic.TheVariants.{I32DivU, I32RemS, I32RemU, I32And, I32Or, I32Xor}
use Rattle.w4_defs.specs.declared.basic.Basic.TheVariants.{I32Shl, I32ShrS, I32ShrU, I32Rotl, I32Rotr, I64Clz}
use Rattle.w4_defs.specs.declared.basic.Basic.TheVariants.{I64Ctz, I64Popcnt, I64Add, I64Sub, I64Mul, I64DivS}
use Rattle.w4_defs.specs.declared.basic.Basic.TheVariants.{I64DivU, I64RemS, I64RemU, I64And, I64Or, I64Xor}
use Rattle.w4_defs.specs.declared.basic.Basic.TheVariants.{I64Shl, I64ShrS, I64ShrU, I64Rotl, I64Rotr}
use Rattle.w4_defs.specs.declared.basic.Basic.TheVariants.{I32WrapI64, I64ExtendI32S, I64ExtendI32U}
use Rattle.w4_defs.specs.declared.basic.Basic.TheVariants.{I32Extend8S, I32Extend16S, I64Extend8S}
use Rattle.w4_defs.specs.declared.basic.Basic.TheVariants.{I64Extend16S, I64Extend32S, I32Load, I64Load}
use Rattle.w4_defs.specs.declared.basic.Basic.TheVariants.{I32Load8S, I32Load8U, I32Load16S, I32Load16U}
use Rattle.w4_defs.specs.declared.basic.Basic.TheVariants.{I64Load8S, I64Load8U, I64Load16S, I64Load16U}
use Rattle.w4_defs.specs.declared.basic.Basic.TheVariants.{I64Load32S, I64Load32U, I32Store, I64Store}
use Rattle.w4_defs.specs.declared.basic.Basic.TheVariants.{I32Store8, I32Store16, I64Store8, I64Store16}
use Rattle.w4_defs.specs.declared.basic.Basic.TheVariants.{I64Store32}
use Rattle.w4_defs.specs.InstructionTable.{opcode}

abbrev pub rows : List Basic → List (ℕ × Basic)
rows basics = map (λ i. (opcode i, i)) basics

-- control and parametric instructions
abbrev pub control_rows : List (ℕ × Op)
control_rows =
    (0x00, Unreachable)
    ∷ (0x01, Nop)
    ∷ (0x0f, Return)
    ∷ (0x1a, Drop)
    ∷ (0x1b, Select)
    ∷ []

-- comparisons of i32
abbrev pub compare32 : List Basic
compare32 =
    I32Eqz ∷ I32Eq ∷ I32Ne ∷ I32LtS ∷ I32LtU ∷ I32GtS ∷ I32GtU ∷ I32LeS ∷ I32LeU ∷ I32GeS ∷ I32GeU ∷ []

-- comparisons of i64
abbrev pub compare64 : List Basic
compare64 =
    I64Eqz ∷ I64Eq ∷ I64Ne ∷ I64LtS ∷ I64LtU ∷ I64GtS ∷ I64GtU ∷ I64LeS ∷ I64LeU ∷ I64GeS ∷ I64GeU ∷ []

-- arithmetic of i32
abbrev pub arith32 : List Basic
arith32 =
    I32Clz ∷ I32Ctz ∷ I32Popcnt ∷ I32Add ∷ I32Sub ∷ I32Mul ∷ I32DivS ∷ I32DivU ∷ I32RemS ∷ I32RemU
    ∷ I32And ∷ I32Or ∷ I32Xor ∷ I32Shl ∷ I32ShrS ∷ I32ShrU ∷ I32Rotl ∷ I32Rotr ∷ []

-- arithmetic of i64
abbrev pub arith64 : List Basic
arith64 =
    I64Clz ∷ I64Ctz ∷ I64Popcnt ∷ I64Add ∷ I64Sub ∷ I64Mul ∷ I64DivS ∷ I64DivU ∷ I64RemS ∷ I64RemU
    ∷ I64And ∷ I64Or ∷ I64Xor ∷ I64Shl ∷ I64ShrS ∷ I64ShrU ∷ I64Rotl ∷ I64Rotr ∷ []

-- conversions and sign extensions
abbrev pub conversions : List Basic
conversions =
    I32WrapI64 ∷ I64ExtendI32S ∷ I64ExtendI32U ∷ I32Extend8S ∷ I32Extend16S ∷ I64Extend8S ∷ I64Extend16S
    ∷ I64Extend32S ∷ []

-- instructions with one index
abbrev pub index_rows : ℕ → List (ℕ × Op)
index_rows index =
    (0x0c, Br index)
    ∷ (0x0d, BrIf index)
    ∷ (0x10, Call index)
    ∷ (0x20, LocalGet index)
    ∷ (0x21, LocalSet index)
    ∷ (0x22, LocalTee index)
    ∷ (0x23, GlobalGet index)
    ∷ (0x24, GlobalSet index)
    ∷ []

-- loads
abbrev pub loads : ℕ → ℕ → List Basic
loads align offset =
    I32Load align offset ∷ I64Load align offset ∷ I32Load8S align offset ∷ I32Load8U align offset
    ∷ I32Load16S align offset ∷ I32Load16U align offset ∷ I64Load8S align offset ∷ I64Load8U align offset
    ∷ I64Load16S align offset ∷ I64Load16U align offset ∷ I64Load32S align offset ∷ I64Load32U align offset
    ∷ []

-- stores
abbrev pub stores : ℕ → ℕ → List Basic
stores align offset =
    I32Store align offset ∷ I64Store align offset ∷ I32Store8 align offset ∷ I32Store16 align offset
    ∷ I64Store8 align offset ∷ I64Store16 align offset ∷ I64Store32 align offset ∷ []
