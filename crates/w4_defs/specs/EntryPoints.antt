-- What a console takes of a cart besides its code and its data segments: the functions that it calls, the
-- start function and those of three exported names (WASM-4 reference; the order in which a reset calls them
-- is a project rule), and the first values of the globals.
use Rattle.std.specs.Prelude.{ℕ, List, [], ◌∷◌, map, Option, Some, None, bytes_eq, codes, if◌then◌else◌}
use Rattle.w4_defs.specs.declared.value.Val.{Val}
use Rattle.w4_defs.specs.declared.module.ExportKind.{ExportKind}
use Rattle.w4_defs.specs.declared.module.ExportKind.TheVariants.{Func, Table, Memory, Global}
use Rattle.w4_defs.specs.Module.{Exported, Global as OwnGlobal, WasmModule}
use Rattle.w4_defs.specs.Program.{constant_of, value_of}

-- the first values of the globals
abbrev pub first_value : OwnGlobal → Val
first_value global = value_of global.global.value (constant_of global.first)

abbrev pub first_globals : WasmModule → List Val
first_globals cart = map first_value cart.globals

-- the function that is exported under a name
abbrev pub if_function : Exported → ExportKind → Option ℕ
if_function export Func = Some export.index
if_function export Table = None
if_function export Memory = None
if_function export Global = None

abbrev pub exported_function_in : List Exported → List ℕ → Option ℕ
exported_function_in [] name = None
exported_function_in (export ∷ exports) name =
    if bytes_eq export.name name then if_function export export.kind else exported_function_in exports name

abbrev pub exported_function : WasmModule → List ℕ → Option ℕ
exported_function cart name = exported_function_in cart.exports name

-- the function that a frame calls
abbrev pub update_entry : WasmModule → Option ℕ
update_entry cart = exported_function cart (codes "update")

-- what a reset calls, in this order, where present
abbrev pub start_functions : WasmModule → List (Option ℕ)
start_functions cart =
    cart.start ∷ exported_function cart (codes "_start") ∷ exported_function cart (codes "_initialize")
    ∷ exported_function cart (codes "start") ∷ []
