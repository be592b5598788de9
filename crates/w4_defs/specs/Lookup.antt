-- What the indices of a module name (Core Specification, section 2.5.1): functions, tables, memories
-- and globals each count their imports first, in order, and then the module's own. And the locals of
-- a function, run by run.
use Rattle.std.specs.Prelude.{ℕ, ◌+◌, List, [], ◌∷◌, ◌++◌, replicate, map, filter_map, slice_get, Option, Some, None, option_and_then}
use Rattle.w4_defs.specs.declared.value.Limits.{Limits}
use Rattle.w4_defs.specs.declared.value.GlobalType.{GlobalType}
use Rattle.w4_defs.specs.declared.value.ValType.{ValType}
use Rattle.w4_defs.specs.declared.module.Locals.{Locals}
use Rattle.w4_defs.specs.declared.module.ImportKind.{ImportKind}
use Rattle.w4_defs.specs.declared.module.ImportKind.TheVariants.{Func, Table, Memory, Global}
use Rattle.w4_defs.specs.Module.{Signature, WasmModule}

abbrev pub imported_function : ImportKind → Option ℕ
imported_function (Func index) = Some index
imported_function _ = None

abbrev pub imported_table : ImportKind → Option Limits
imported_table (Table limits) = Some limits
imported_table _ = None

abbrev pub imported_memory : ImportKind → Option Limits
imported_memory (Memory limits) = Some limits
imported_memory _ = None

abbrev pub imported_global : ImportKind → Option GlobalType
imported_global (Global global) = Some global
imported_global _ = None

-- the type index of each function
abbrev pub function_indices : WasmModule → List ℕ
function_indices m = filter_map (λ i. imported_function i.kind) m.imports ++ m.functions

abbrev pub tables_of : WasmModule → List Limits
tables_of m = filter_map (λ i. imported_table i.kind) m.imports ++ m.tables

abbrev pub memories_of : WasmModule → List Limits
memories_of m = filter_map (λ i. imported_memory i.kind) m.imports ++ m.memories

abbrev pub global_types : WasmModule → List GlobalType
global_types m = filter_map (λ i. imported_global i.kind) m.imports ++ map (λ g. g.global) m.globals

-- the types of the module's own globals
abbrev pub own_global_types : WasmModule → List ValType
own_global_types m = map (λ g. g.global.value) m.globals

-- the type of a function, where there is such a function and its type index names a type
abbrev pub signature_of : WasmModule → ℕ → Option Signature
signature_of m func = option_and_then (λ index. slice_get m.types index) (slice_get (function_indices m) func)

-- how many locals the runs have together
abbrev pub local_count : List Locals → ℕ
local_count [] = 0
local_count (run ∷ runs) = run.count + local_count runs

-- the type of each local of the runs
abbrev pub local_types : List Locals → List ValType
local_types [] = []
local_types (run ∷ runs) = replicate run.count run.kind ++ local_types runs
