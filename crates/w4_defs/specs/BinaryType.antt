-- Vectors, names and types (Core Specification, sections 5.1.3, 5.2.4 and 5.3).
use Rattle.std.specs.Prelude.{◌≡◌, ℕ, ◌≤◌, Bool, true, false, List, ◌++◌, length, Option, Some, None, IsUtf8}
use Rattle.w4_defs.specs.declared.value.ValType.{ValType}
use Rattle.w4_defs.specs.declared.value.ValType.TheVariants.{I32, I64, F32, F64}
use Rattle.w4_defs.specs.declared.value.Limits.{Limits}
use Rattle.w4_defs.specs.declared.value.GlobalType.{GlobalType}
use Rattle.w4_defs.specs.BinaryText.{Texts, ◌then◌, provided, byte, itself, items}
use Rattle.w4_defs.specs.BinaryNumber.{unsigned}
use Rattle.w4_defs.specs.Module.{Signature}

-- a count and that many items
abbrev pub vector : {A : Type 0} → (A → Texts) → List A → Texts
vector spelled xs = unsigned 32 (length xs) then items spelled xs

-- a size and exactly that many bytes
abbrev pub sized : {A : Type 0} → (A → Texts) → A → Texts
sized spelled x text =
    (size body : List ℕ) × (text ≡ size ++ body) × unsigned 32 (length body) size × spelled x body

-- a vector of bytes
abbrev pub bytes : List ℕ → Texts
bytes = sized itself

-- a vector of bytes that is valid UTF-8
abbrev pub utf8 : List ℕ → Texts
utf8 codes = provided (IsUtf8 codes) (itself codes)

abbrev pub name : List ℕ → Texts
name = sized utf8

abbrev pub value_type : ValType → Texts
value_type I32 = byte 0x7f
value_type I64 = byte 0x7e
value_type F32 = byte 0x7d
value_type F64 = byte 0x7c

-- project rule: a type with more than one result has no text, where Core 1.0 refuses it in validation
abbrev pub func_type : Signature → Texts
func_type s =
    provided (length s.results ≤ 1)
    (byte 0x60 then vector value_type s.params then vector value_type s.results)

abbrev pub sizes : ℕ → Option ℕ → Texts
sizes least None = byte 0x00 then unsigned 32 least
sizes least (Some greatest) = byte 0x01 then unsigned 32 least then unsigned 32 greatest

abbrev pub limits : Limits → Texts
limits l = sizes l.least l.greatest

-- a table of functions, the one kind of table
abbrev pub table_type : Limits → Texts
table_type l = byte 0x70 then limits l

abbrev pub mutability : Bool → Texts
mutability false = byte 0x00
mutability true = byte 0x01

abbrev pub global_type : GlobalType → Texts
global_type g = value_type g.value then mutability g.mutable

-- the result of a block, if it has one
abbrev pub block_type : Option ValType → Texts
block_type None = byte 0x40
block_type (Some t) = value_type t
