-- Reading of an instruction that holds no list and has no labels (Core Specification, section 5.4): its
-- code tells what follows.
use Rattle.std.specs.Prelude.{ℕ, ◌==◌, ◌||◌, ◌&&◌, nat_le, Bool, if◌then◌else◌, [], ◌∷◌, Option, Some, None}
use Rattle.std.specs.Prelude.{option_map}
use Rattle.std.specs.Int.{w32, w64}
use Rattle.w4_defs.specs.declared.operation.Op.{Op}
use Rattle.w4_defs.specs.declared.operation.Op.TheVariants.{CallIndirect}
use Rattle.w4_defs.specs.declared.operation.Op.TheVariants as op
use Rattle.w4_defs.specs.declared.basic.Basic.{Basic}
use Rattle.w4_defs.specs.declared.basic.Basic.TheVariants.{I32Const, I64Const, F32Const, F64Const}
use Rattle.w4_defs.specs.declared.basic.Basic.TheVariants.{FloatMemory, FloatPlain, FloatCut, MemorySize}
use Rattle.w4_defs.specs.declared.basic.Basic.TheVariants.{MemoryGrow, MemoryCopy, MemoryFill}
use Rattle.w4_defs.specs.Reading.{◌>>=◌, little_endian_at}
use Rattle.wasm_read.specs.Reader.{Reader, row_of}
use Rattle.wasm_read.specs.ReadNumber.{unsigned_at, signed_at}
use Rattle.wasm_read.specs.Combine.{both_at, mapped_at, headed_at}
use Rattle.wasm_read.specs.InstructionTable.{rows, control_rows, compare32, compare64, arith32, arith64}
use Rattle.wasm_read.specs.InstructionTable.{conversions, index_rows, loads, stores}

-- this value, without any bytes
abbrev pub always_at : {A : Type 0} → A → Reader A
always_at x bytes = Some (x, bytes)

-- the first that is there
abbrev pub first_some : {A : Type 0} → Option A → Option A → Option A
first_some (Some x) other = Some x
first_some None other = other

abbrev pub is_between : ℕ → ℕ → ℕ → Bool
is_between low high code = nat_le low code && nat_le code high

abbrev pub is_float_code : ℕ → Bool
is_float_code code =
    is_between 0x5b 0x66 code
    || (is_between 0x8b 0xa6 code || (is_between 0xa8 0xab code || is_between 0xae 0xbf code))

abbrev pub has_index : ℕ → Bool
has_index code = (code == 0x0c) || ((code == 0x0d) || ((code == 0x10) || is_between 0x20 0x24 code))

abbrev pub is_float_access : ℕ → Bool
is_float_access code = (code == 0x2a) || ((code == 0x2b) || ((code == 0x38) || (code == 0x39)))

abbrev pub numeric_of : ℕ → Option Basic
numeric_of code =
    first_some (row_of (rows compare32) code)
    (first_some (row_of (rows compare64) code)
    (first_some (row_of (rows arith32) code)
    (first_some (row_of (rows arith64) code) (row_of (rows conversions) code))))

abbrev pub plain_of : ℕ → Option Op
plain_of code = first_some (row_of control_rows code) (option_map op.Basic (numeric_of code))

abbrev pub access_of : ℕ → ℕ → ℕ → Option Basic
access_of code align offset =
    if is_float_access code then Some (FloatMemory code align offset)
    else first_some (row_of (rows (loads align offset)) code) (row_of (rows (stores align offset)) code)

abbrev pub indexed_at : ℕ → Reader Op
indexed_at code bs = unsigned_at 32 bs >>= λ n. row_of (index_rows n.0) code >>= λ o. Some (o, n.1)

abbrev pub indices_at : Reader (ℕ × ℕ)
indices_at = both_at (unsigned_at 32) (unsigned_at 32)

abbrev pub access_at : ℕ → Reader Op
access_at code bs = indices_at bs >>= λ n. access_of code n.0.0 n.0.1 >>= λ i. Some (op.Basic i, n.1)

abbrev pub indirect_of : ℕ × ℕ → Op
indirect_of n = CallIndirect n.0 n.1

abbrev pub constant_at : ℕ → Reader Op
constant_at code bs =
    if code == 0x41 then mapped_at (λ n. op.Basic (I32Const n)) (signed_at 32) bs
    else (if code == 0x42 then mapped_at (λ n. op.Basic (I64Const n)) (signed_at 64) bs
    else (if code == 0x43 then mapped_at (λ n. op.Basic (F32Const n)) (little_endian_at w32) bs
    else mapped_at (λ n. op.Basic (F64Const n)) (little_endian_at w64) bs))

abbrev pub prefixed_of : ℕ → Reader Op
prefixed_of n bs =
    if nat_le n 7 then Some (op.Basic (FloatCut n), bs)
    else (if n == 10 then headed_at 0 (headed_at 0 (always_at (op.Basic MemoryCopy))) bs
    else (if n == 11 then headed_at 0 (always_at (op.Basic MemoryFill)) bs else None))

abbrev pub prefixed_at : Reader Op
prefixed_at bs = unsigned_at 32 bs >>= λ n. prefixed_of n.0 n.1

-- what stands after this code
abbrev pub special_after : ℕ → Reader Op
special_after code bs =
    if code == 0x11 then mapped_at indirect_of indices_at bs
    else (if code == 0x3f then headed_at 0 (always_at (op.Basic MemorySize)) bs
    else (if code == 0x40 then headed_at 0 (always_at (op.Basic MemoryGrow)) bs
    else (if code == 0xfc then prefixed_at bs else (plain_of code >>= λ o. Some (o, bs)))))

abbrev pub operation_after : ℕ → Reader Op
operation_after code bs =
    if is_float_code code then Some (op.Basic (FloatPlain code), bs)
    else (if has_index code then indexed_at code bs
    else (if is_between 0x28 0x3e code then access_at code bs
    else (if is_between 0x41 0x44 code then constant_at code bs else special_after code bs)))

unfoldable pub operation_at : Reader Op
operation_at [] = None
operation_at (code ∷ bs) = operation_after code bs
