-- Typed instructions find the operands that they take (Core Specification, the appendix on soundness),
-- here for memory and numeric instructions. Types of operands are listed from the top, as operands are.
use Rattle.std.specs.Prelude.{◌≡◌, ℕ, List, ◌++◌, Bool, Some, reverse}
use Rattle.w4_defs.specs.declared.value.Val.{Val}
use Rattle.w4_defs.specs.declared.value.ValType.{ValType}
use Rattle.w4_defs.specs.declared.operation.Op.TheVariants as op
use Rattle.w4_defs.specs.declared.basic.Basic.{Basic}
use Rattle.w4_defs.specs.Effects.{Effect, Does, Traps, Lacks, Plain, effect}
use Rattle.w4_defs.specs.OperandTypes.{StackType, basic_type}
use Rattle.w4_defs.specs.RunLaws.{types_of}

-- the operands' types, from the top, and the locals' afterwards; nothing is missing
abbrev pub Suits : List ValType → List ValType → Effect → Type 0
Suits types locals (Does ops ls page) = (types_of ops ≡ types) × (types_of ls ≡ locals)
Suits types locals (Traps c) = Unit {0}
Suits types locals Lacks = ⊥

-- where the operands are those that are taken, with others below, the effect leaves what is given above these
pub record Sound (plain : Plain) (stack_type : StackType) : Type 0 where
  pub suits : (under : List ValType) (ops ls : List Val) (page : List ℕ)
      → types_of ops ≡ reverse stack_type.0 ++ under
      → Suits (reverse stack_type.1 ++ under) (types_of ls) (plain ops ls page)

-- with a memory or without: the effect of an instruction that has a type suits that type
abbrev pub PlainInstructionsAreSound : Type 0
PlainInstructionsAreSound =
    (has_memory : Bool) (i : Basic) (stack_type : StackType) → basic_type has_memory i ≡ Some stack_type
    → Sound (effect (op.Basic i)) stack_type
