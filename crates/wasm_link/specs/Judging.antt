-- The parts of the profile as the functions of this crate find them, where the profile's definition
-- speaks of trees or of several lists at once.
use Rattle.std.specs.Prelude.{◌||◌, Bool, false, not, [], ◌∷◌}
use Rattle.w4_defs.specs.declared.value.ValType.{ValType}
use Rattle.w4_defs.specs.declared.value.ValType.TheVariants.{I32}
use Rattle.w4_defs.specs.declared.operation.Op.{Op}
use Rattle.w4_defs.specs.declared.operation.Op.TheVariants.{Block, Loop, If}
use Rattle.w4_defs.specs.declared.module.ImportKind.{ImportKind}
use Rattle.w4_defs.specs.declared.module.ImportKind.TheVariants as kind
use Rattle.w4_defs.specs.ValueTypes.{same_type}
use Rattle.w4_defs.specs.Floats.{is_float, is_float_result, is_float_operation}

abbrev pub is_other : ValType → Bool
is_other t = not (same_type t I32)

-- a float instruction, or a block type that is a float's
abbrev pub is_float_mark : Op → Bool
is_float_mark (Block r end) = is_float_result r
is_float_mark (Loop r end) = is_float_result r
is_float_mark (If r other end) = is_float_result r
is_float_mark op = is_float_operation op

-- an imported global of a float type
abbrev pub imports_float : ImportKind → Bool
imports_float (kind.Global global) = is_float global.value
imports_float _ = false
