-- The types that a stack type of the program holds.
use Rattle.std.specs.Prelude.{Option, option_map}
use Rattle.w4_defs.specs.OperandTypes.{StackType}
use Rattle.wasm_valid.specs.declared.stack_types.StackType.{StackType as Held}

abbrev pub shown : Option Held → Option StackType
shown stack_type = option_map (λ a. (a.takes.now, a.gives.now)) stack_type
