-- Reading of names and types (Core Specification, sections 5.2.4 and 5.3).
use Rattle.std.specs.Prelude.{ℕ, ◌==◌, nat_le, Bool, true, false, if◌then◌else◌, List, [], ◌∷◌, length}
use Rattle.std.specs.Prelude.{Option, Some, None}
use Rattle.std.specs.Str.{is_utf8}
use Rattle.w4_defs.specs.declared.value.ValType.{ValType}
use Rattle.w4_defs.specs.declared.value.ValType.TheVariants.{I32, I64, F32, F64}
use Rattle.w4_defs.specs.declared.value.Limits.{Limits}
use Rattle.w4_defs.specs.declared.value.GlobalType.{GlobalType}
use Rattle.w4_defs.specs.Module.{Signature}
use Rattle.wasm_read.specs.Reader.{Reader, coded_at}
use Rattle.wasm_read.specs.ReadNumber.{unsigned_at}
use Rattle.wasm_read.specs.Combine.{both_at, mapped_at, tested_at, headed_at, vector_at, sized_at}

abbrev pub utf8_at : List ℕ → Option (List ℕ)
utf8_at codes = if is_utf8 codes then Some codes else None

abbrev pub name_at : Reader (List ℕ)
name_at = sized_at utf8_at

abbrev pub value_type_codes : List (ℕ × ValType)
value_type_codes = (0x7f, I32) ∷ (0x7e, I64) ∷ (0x7d, F32) ∷ (0x7c, F64) ∷ []

abbrev pub value_type_at : Reader ValType
value_type_at = coded_at value_type_codes

abbrev pub block_type_codes : List (ℕ × Option ValType)
block_type_codes =
    (0x40, None) ∷ (0x7f, Some I32) ∷ (0x7e, Some I64) ∷ (0x7d, Some F32) ∷ (0x7c, Some F64) ∷ []

abbrev pub block_type_at : Reader (Option ValType)
block_type_at = coded_at block_type_codes

abbrev pub mutability_codes : List (ℕ × Bool)
mutability_codes = (0x00, false) ∷ (0x01, true) ∷ []

abbrev pub global_type_of : ValType × Bool → GlobalType
global_type_of g = record { value = g.0; mutable = g.1 }

abbrev pub global_type_at : Reader GlobalType
global_type_at = mapped_at global_type_of (both_at value_type_at (coded_at mutability_codes))

abbrev pub open_limits : ℕ → Limits
open_limits least = record { least = least; greatest = None }

abbrev pub closed_limits : ℕ × ℕ → Limits
closed_limits sizes = record { least = sizes.0; greatest = Some sizes.1 }

abbrev pub limits_at : Reader Limits
limits_at [] = None
limits_at (b ∷ bs) =
    if b == 0 then mapped_at open_limits (unsigned_at 32) bs
    else (if b == 1 then mapped_at closed_limits (both_at (unsigned_at 32) (unsigned_at 32)) bs else None)

abbrev pub table_type_at : Reader Limits
table_type_at = headed_at 0x70 limits_at

abbrev pub func_type_of : List ValType × List ValType → Signature
func_type_of s = record { params = s.0; results = s.1 }

abbrev pub func_type_at : Reader Signature
func_type_at =
    tested_at (λ s. nat_le (length s.results) 1)
    (mapped_at func_type_of (headed_at 0x60 (both_at (vector_at value_type_at) (vector_at value_type_at))))
