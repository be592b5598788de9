-- Constant expressions (Core Specification, section 3.3.7). Those of a cart are a single `i32.const` or
-- `i64.const`, since it imports no global and floats have no type.
use Rattle.std.specs.Prelude.{ℕ, Option, Some, None}
use Rattle.w4_defs.specs.declared.value.Val.{Val}
use Rattle.w4_defs.specs.declared.value.Val.TheVariants as val
use Rattle.w4_defs.specs.declared.operation.Op.{Op}
use Rattle.w4_defs.specs.declared.operation.Op.TheVariants.{Basic}
use Rattle.w4_defs.specs.declared.basic.Basic.TheVariants.{I32Const, I64Const}
use Rattle.w4_defs.specs.Tree.{Expr, done, plain}

-- the value of a constant; no other operation has one here
abbrev pub const_value : Op → Option Val
const_value (Basic (I32Const n)) = Some (val.I32 n)
const_value (Basic (I64Const n)) = Some (val.I64 n)
const_value _ = None

-- the value of an expression that is a single constant
abbrev pub expression_value : Expr → Option Val
expression_value (plain m done) = const_value m.0
expression_value _ = None

-- the number of a value of type i32
abbrev pub i32_number : Val → Option ℕ
i32_number (val.I32 n) = Some n
i32_number (val.I64 n) = None
