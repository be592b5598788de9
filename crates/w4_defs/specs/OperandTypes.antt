-- The types of memory and numeric instructions (Core Specification, sections 3.3.1 and 3.3.4 of 1.0,
-- with the integer additions of Core 2.0): what each takes and what it gives, from the bottom of the
-- operands to their top. The float instructions have no type here.
use Rattle.std.specs.Prelude.{ℕ, ◌^◌, Bool, true, false, ◌&&◌, nat_le, List, [], ◌∷◌, Option, Some, None}
use Rattle.w4_defs.specs.declared.value.ValType.{ValType}
use Rattle.w4_defs.specs.declared.value.ValType.TheVariants.{I32, I64}
use Rattle.w4_defs.specs.declared.basic.Basic.{Basic}
use Rattle.w4_defs.specs.declared.instruction_table.Row.{Row}
use Rattle.w4_defs.specs.declared.instruction_table.Row.TheVariants as shape
use Rattle.w4_defs.specs.InstructionTable.{value_type_of, row}

-- what is taken, and what is given
abbrev pub StackType : Type 0
StackType = List ValType × List ValType

abbrev pub stack_type_if : Bool → List ValType → List ValType → Option StackType
stack_type_if true taken given = Some (taken, given)
stack_type_if false taken given = None

abbrev pub gives : ValType → Option StackType
gives t = Some ([], t ∷ [])

abbrev pub unary_type : ValType → Option StackType
unary_type t = Some (t ∷ [], t ∷ [])

abbrev pub binary_type : ValType → Option StackType
binary_type t = Some (t ∷ t ∷ [], t ∷ [])

abbrev pub test_type : ValType → Option StackType
test_type t = Some (t ∷ [], I32 ∷ [])

abbrev pub comparison_type : ValType → Option StackType
comparison_type t = Some (t ∷ t ∷ [], I32 ∷ [])

abbrev pub conversion_type : ValType → ValType → Option StackType
conversion_type from to = Some (from ∷ [], to ∷ [])

-- there is a memory, and the alignment is at most as many bytes as are accessed
abbrev pub load_type : Bool → ℕ → ℕ → ValType → Option StackType
load_type has_memory align count t =
    stack_type_if (has_memory && nat_le (2 ^ align) count) (I32 ∷ []) (t ∷ [])

abbrev pub store_type : Bool → ℕ → ℕ → ValType → Option StackType
store_type has_memory align count t = stack_type_if (has_memory && nat_le (2 ^ align) count) (I32 ∷ t ∷ []) []

-- what a row takes and gives, with a memory or without
abbrev pub row_type : Bool → Row → Option StackType
row_type has_memory (shape.Const t n) = gives (value_type_of t)
row_type has_memory (shape.Test t) = test_type (value_type_of t)
row_type has_memory (shape.Compare t o) = comparison_type (value_type_of t)
row_type has_memory (shape.Unary t o) = unary_type (value_type_of t)
row_type has_memory (shape.Binary t o) = binary_type (value_type_of t)
row_type has_memory shape.Wrap = conversion_type I64 I32
row_type has_memory (shape.Extend sign) = conversion_type I32 I64
row_type has_memory (shape.ExtendWithin t bits) = unary_type (value_type_of t)
row_type has_memory (shape.Load t bytes sign align offset) =
    load_type has_memory align bytes (value_type_of t)
row_type has_memory (shape.Store t bytes align offset) = store_type has_memory align bytes (value_type_of t)
row_type has_memory shape.MemorySize = stack_type_if has_memory [] (I32 ∷ [])
row_type has_memory shape.MemoryGrow = stack_type_if has_memory (I32 ∷ []) (I32 ∷ [])
row_type has_memory shape.MemoryCopy = stack_type_if has_memory (I32 ∷ I32 ∷ I32 ∷ []) []
row_type has_memory shape.MemoryFill = stack_type_if has_memory (I32 ∷ I32 ∷ I32 ∷ []) []
row_type has_memory shape.Float = None

abbrev pub basic_type : Bool → Basic → Option StackType
basic_type has_memory i = row_type has_memory (row i)
