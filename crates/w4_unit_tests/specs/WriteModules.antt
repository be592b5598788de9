-- A module that has a section of each kind.
use Rattle.std.specs.Prelude.{ℕ, List, [], ◌∷◌, Some, None, true, false, codes}
use Rattle.w4_defs.specs.declared.value.ValType.TheVariants.{I32, I64, F64}
use Rattle.w4_defs.specs.declared.module.ImportKind.TheVariants as imports
use Rattle.w4_defs.specs.declared.module.ExportKind.TheVariants as exports
use Rattle.w4_defs.specs.declared.module.Locals.{Locals}
use Rattle.w4_defs.specs.declared.operation.Op.TheVariants.{Basic}
use Rattle.w4_defs.specs.declared.basic.Basic.TheVariants.{I32Const}
use Rattle.w4_defs.specs.Tree.{Expr, done, mark, plain}
use Rattle.w4_defs.specs.Module.{Imported, Exported, WasmModule, nothing_to_nothing}
use Rattle.w4_defs.specs.declared.module.ImportKind.{ImportKind}
use Rattle.w4_defs.specs.declared.module.ExportKind.{ExportKind}

-- a list with this constant alone
abbrev pub constant_list : ℕ → Expr
constant_list value = plain (mark (Basic (I32Const value))) done

-- an import from the module "m"
abbrev pub imported : List ℕ → ImportKind → Imported
imported name kind = record { module_name = codes "m"; name = name; kind = kind }

-- an export of the first of its kind
abbrev pub exported : List ℕ → ExportKind → Exported
exported name kind = record { name = name; kind = kind; index = 0 }

-- two locals of a type and one of another
abbrev pub all_locals : List Locals
all_locals = record { count = 2; kind = I32 } ∷ record { count = 1; kind = F64 } ∷ []

abbrev pub all_sections : WasmModule
all_sections = record {
  types = record { params = I32 ∷ I64 ∷ []; results = F64 ∷ [] } ∷ nothing_to_nothing ∷ [];
  imports =
      imported (codes "f") (imports.Func 1)
      ∷ imported (codes "t") (imports.Table (record { least = 1; greatest = None }))
      ∷ imported (195 ∷ 169 ∷ []) (imports.Memory (record { least = 1; greatest = Some 2 }))
      ∷ imported (codes "g") (imports.Global (record { value = I64; mutable = false }))
      ∷ [];
  functions = 1 ∷ [];
  tables = record { least = 0; greatest = Some 128 } ∷ [];
  memories = record { least = 1; greatest = None } ∷ [];
  globals = record { global = record { value = I32; mutable = true }; first = constant_list 42 } ∷ [];
  exports =
      exported (codes "f") exports.Func
      ∷ exported (codes "t") exports.Table
      ∷ exported (codes "m") exports.Memory
      ∷ exported (codes "g") exports.Global
      ∷ [];
  start = Some 1;
  elements = record { table = 0; offset = constant_list 0; functions = 0 ∷ 1 ∷ [] } ∷ [];
  bodies = record { runs = all_locals; list = done } ∷ [];
  segments = record { memory = 0; offset = constant_list 8; bytes = codes "abc" } ∷ [];
}
