-- Where a float stands in a module: an f32 or f64 in a function type, an imported or own global's
-- type, a run of locals, also one of no locals, or a block type; or a float instruction anywhere.
use Rattle.std.specs.Prelude.{Bool, true, false, ◌||◌, Option, Some, None}
use Rattle.std.specs.List.{list_any}
use Rattle.w4_defs.specs.declared.value.ValType.{ValType}
use Rattle.w4_defs.specs.declared.value.ValType.TheVariants.{I32, I64, F32, F64}
use Rattle.w4_defs.specs.declared.operation.Op.{Op}
use Rattle.w4_defs.specs.declared.operation.Op.TheVariants.{Basic}
use Rattle.w4_defs.specs.declared.instruction_table.Row.{Row}
use Rattle.w4_defs.specs.declared.instruction_table.Row.TheVariants.{Float}
use Rattle.w4_defs.specs.InstructionTable.{row}
use Rattle.w4_defs.specs.Tree.{Expr, done, plain, block, loop, if_then, if_else}
use Rattle.w4_defs.specs.Module.{Signature, Function, WasmModule}
use Rattle.w4_defs.specs.Lookup.{global_types}

abbrev pub is_float : ValType → Bool
is_float I32 = false
is_float I64 = false
is_float F32 = true
is_float F64 = true

abbrev pub is_float_result : Option ValType → Bool
is_float_result None = false
is_float_result (Some t) = is_float t

abbrev pub is_float_row : Row → Bool
is_float_row Float = true
is_float_row _ = false

abbrev pub is_float_operation : Op → Bool
is_float_operation (Basic i) = is_float_row (row i)
is_float_operation _ = false

abbrev pub has_float : Expr → Bool
has_float done = false
has_float (plain m rest) = is_float_operation m.0 || has_float rest
has_float (block r inner rest) = is_float_result r || has_float inner || has_float rest
has_float (loop r inner rest) = is_float_result r || has_float inner || has_float rest
has_float (if_then r taken rest) = is_float_result r || has_float taken || has_float rest
has_float (if_else r taken other rest) =
    is_float_result r || has_float taken || has_float other || has_float rest

abbrev pub signature_has_float : Signature → Bool
signature_has_float s = list_any is_float s.params || list_any is_float s.results

abbrev pub function_has_float : Function → Bool
function_has_float f = list_any (λ run. is_float run.kind) f.runs || has_float f.list

abbrev pub module_has_float : WasmModule → Bool
module_has_float m =
    list_any signature_has_float m.types
    || list_any (λ g. is_float g.value) (global_types m)
    || list_any (λ g. has_float g.first) m.globals
    || list_any (λ s. has_float s.offset) m.elements
    || list_any function_has_float m.bodies
    || list_any (λ s. has_float s.offset) m.segments
