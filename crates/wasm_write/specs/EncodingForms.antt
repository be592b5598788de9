-- The bytes of an instruction in two parts: those before the lists inside it, and those of the lists.
use Rattle.std.specs.Prelude.{◌≡◌, ℕ, List, [], ◌∷◌, ◌++◌, length, flat_map}
use Rattle.std.specs.Int.{w32, w64, to_le_bytes}
use Rattle.w4_defs.specs.declared.instruction.Instr.{Instr}
use Rattle.w4_defs.specs.declared.instruction_table.Row.{Row}
use Rattle.w4_defs.specs.declared.instruction_table.Row.TheVariants.{Const}
use Rattle.w4_defs.specs.Tree.{Expr}
use Rattle.w4_defs.specs.View.{before, expression_of}
use Rattle.wasm_write.specs.declared.instruction_table.Encoding.{Encoding}
use Rattle.wasm_write.specs.declared.instruction_table.Encoding.TheVariants.{Code, One, Two, Three, Signed32}
use Rattle.wasm_write.specs.declared.instruction_table.Encoding.TheVariants.{Signed64, Bits32, Bits64, Labels}
use Rattle.wasm_write.specs.declared.instruction_table.Encoding.TheVariants.{Choice}
use Rattle.wasm_write.specs.declared.instruction_table.Encoding.TheVariants as encoding
use Rattle.w4_defs.specs.EncodeNumber.{unsigned_bytes, signed_bytes}
use Rattle.w4_defs.specs.EncodeType.{block_type_code}
use Rattle.w4_defs.specs.EncodeInstruction.{list_bytes}

-- the opcode and what stands after it, up to the first list
abbrev pub head_bytes : Encoding → List ℕ
head_bytes (Code code) = code ∷ []
head_bytes (One code first) = code ∷ unsigned_bytes first
head_bytes (Two code first second) = code ∷ unsigned_bytes first ++ unsigned_bytes second
head_bytes (Three code first second third) =
    code ∷ unsigned_bytes first ++ (unsigned_bytes second ++ unsigned_bytes third)
head_bytes (Signed32 code value) = code ∷ signed_bytes 32 value
head_bytes (Signed64 code value) = code ∷ signed_bytes 64 value
head_bytes (Bits32 code bits) = code ∷ to_le_bytes w32 bits
head_bytes (Bits64 code bits) = code ∷ to_le_bytes w64 bits
head_bytes (Labels labels last) =
    0x0e ∷ unsigned_bytes (length labels.now) ++ (flat_map unsigned_bytes labels.now ++ unsigned_bytes last)
head_bytes (encoding.List code result inner) = code ∷ block_type_code result ∷ []
head_bytes (Choice result first second) = 0x04 ∷ block_type_code result ∷ []

-- the lists, each with the byte that closes it
abbrev pub inner_bytes : Encoding → List ℕ
inner_bytes (encoding.List code result inner) = list_bytes 0x0b (expression_of inner.now)
inner_bytes (Choice result first second) =
    list_bytes 0x05 (expression_of first.now) ++ list_bytes 0x0b (expression_of second.now)
inner_bytes _ = []

-- a list that begins with the instruction is encoded by these, and then by what follows it
abbrev pub IsEncodedAs : Instr → Encoding → Type 0
IsEncodedAs i e =
    (close : ℕ) (rest : Expr)
    → list_bytes close (before i rest) ≡ head_bytes e ++ (inner_bytes e ++ list_bytes close rest)

-- a row whose immediate isn't a constant
abbrev pub HasNoConstant : Row → Type 0
HasNoConstant (Const t value) = ⊥
HasNoConstant _ = Unit {0}
