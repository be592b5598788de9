-- Functions and modules with the same parts are the same.
use Rattle.std.proofs.Common.{◌≡◌, ℕ, List, [], None, ap, ◌∙◌}
use Rattle.w4_defs.specs.declared.value.Limits.{Limits}
use Rattle.w4_defs.specs.declared.module.Locals.{Locals}
use Rattle.w4_defs.specs.Tree.{Expr}
use Rattle.w4_defs.specs.Module.{Signature, Imported, Exported, Global, ElementSegment, DataSegment, Function}
use Rattle.w4_defs.specs.Module.{WasmModule}

abbrev pub function_with : List Locals → Expr → Function
function_with runs list = record { runs = runs; list = list }

pub same_function : {runs other : List Locals} {list same : Expr} → runs ≡ other → list ≡ same
    → function_with runs list ≡ function_with other same
same_function {runs} {other} {list} {same} e f = ap (λ rs. function_with rs list) e
    ∙ ap (λ is. function_with other is) f

-- a module with no start function
unfoldable pub module_with : List Signature → List Imported → List ℕ → List Limits → List Limits
    → List Global → List Exported → List ElementSegment → List Function → List DataSegment → WasmModule
module_with types imports functions tables memories globals exports elements bodies segments = record {
  types = types;
  imports = imports;
  functions = functions;
  tables = tables;
  memories = memories;
  globals = globals;
  exports = exports;
  start = None;
  elements = elements;
  bodies = bodies;
  segments = segments;
}

pub same_module : {types other_types : List Signature} {imports other_imports : List Imported}
    {functions other_functions : List ℕ} {tables memories : List Limits} {globals : List Global}
    {exports other_exports : List Exported} {elements : List ElementSegment}
    {bodies other_bodies : List Function} {segments : List DataSegment}
    → types ≡ other_types → imports ≡ other_imports → functions ≡ other_functions → tables ≡ []
    → memories ≡ [] → globals ≡ [] → exports ≡ other_exports → elements ≡ [] → bodies ≡ other_bodies
    → segments ≡ []
    → module_with types imports functions tables memories globals exports elements bodies segments
    ≡ module_with other_types other_imports other_functions [] [] [] other_exports [] other_bodies []
same_module e1 e2 e3 e4 e5 e6 e7 e8 e9 e10 = cc
