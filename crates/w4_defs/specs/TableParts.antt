-- Which rows each part of the table holds (Core Specification, sections 2.4.1 and 2.4.4).
use Rattle.std.specs.Prelude.{Option, Some, None}
use Rattle.w4_defs.specs.declared.instruction_table.IntegerType.{IntegerType}
use Rattle.w4_defs.specs.declared.instruction_table.Row.{Row}
use Rattle.w4_defs.specs.declared.instruction_table.Row.TheVariants.{Const, Test, Compare, Unary, Binary, Wrap, Extend, ExtendWithin, Float}

-- the type of a testop, relop, unop or binop
abbrev pub type_of_operator : Row → Option IntegerType
type_of_operator (Test t) = Some t
type_of_operator (Compare t op) = Some t
type_of_operator (Unary t op) = Some t
type_of_operator (Binary t op) = Some t
type_of_operator _ = None

-- a numeric instruction, or any of floats
abbrev pub IsNumericRow : Row → Type 0
IsNumericRow (Const t value) = Unit {0}
IsNumericRow (Test t) = Unit {0}
IsNumericRow (Compare t op) = Unit {0}
IsNumericRow (Unary t op) = Unit {0}
IsNumericRow (Binary t op) = Unit {0}
IsNumericRow Wrap = Unit {0}
IsNumericRow (Extend sign) = Unit {0}
IsNumericRow (ExtendWithin t bits) = Unit {0}
IsNumericRow Float = Unit {0}
IsNumericRow _ = ⊥
