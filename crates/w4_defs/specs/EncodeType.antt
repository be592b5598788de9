-- The bytes of vectors, names and types (Core Specification, sections 5.1.3, 5.2.4 and 5.3), every number in
-- its shortest encoding.
use Rattle.std.specs.Prelude.{ℕ, Bool, true, false, List, [], ◌∷◌, ◌++◌, length, Option, Some, None, flat_map}
use Rattle.w4_defs.specs.declared.value.ValType.{ValType}
use Rattle.w4_defs.specs.declared.value.ValType.TheVariants.{I32, I64, F32, F64}
use Rattle.w4_defs.specs.declared.value.Limits.{Limits}
use Rattle.w4_defs.specs.declared.value.GlobalType.{GlobalType}
use Rattle.w4_defs.specs.Module.{Signature}
use Rattle.w4_defs.specs.EncodeNumber.{unsigned_bytes}

-- a count and that many items
abbrev pub vector_bytes : {A : Type 0} → (A → List ℕ) → List A → List ℕ
vector_bytes encode xs = unsigned_bytes (length xs) ++ flat_map encode xs

-- a size and exactly that many bytes
abbrev pub sized_bytes : List ℕ → List ℕ
sized_bytes body = unsigned_bytes (length body) ++ body

abbrev pub value_type_code : ValType → ℕ
value_type_code I32 = 0x7f
value_type_code I64 = 0x7e
value_type_code F32 = 0x7d
value_type_code F64 = 0x7c

abbrev pub value_type_bytes : ValType → List ℕ
value_type_bytes t = value_type_code t ∷ []

abbrev pub block_type_code : Option ValType → ℕ
block_type_code None = 0x40
block_type_code (Some t) = value_type_code t

abbrev pub func_type_bytes : Signature → List ℕ
func_type_bytes s = 0x60 ∷ vector_bytes value_type_bytes s.params ++ vector_bytes value_type_bytes s.results

abbrev pub sizes_bytes : ℕ → Option ℕ → List ℕ
sizes_bytes least None = 0x00 ∷ unsigned_bytes least
sizes_bytes least (Some greatest) = 0x01 ∷ unsigned_bytes least ++ unsigned_bytes greatest

abbrev pub limits_bytes : Limits → List ℕ
limits_bytes l = sizes_bytes l.least l.greatest

abbrev pub table_type_bytes : Limits → List ℕ
table_type_bytes l = 0x70 ∷ limits_bytes l

abbrev pub mutability_code : Bool → ℕ
mutability_code false = 0x00
mutability_code true = 0x01

abbrev pub global_type_bytes : GlobalType → List ℕ
global_type_bytes g = value_type_code g.value ∷ mutability_code g.mutable ∷ []
