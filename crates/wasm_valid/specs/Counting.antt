-- How many functions, tables, memories and globals there are (Core Specification, section 2.5.1).
use Rattle.std.specs.Prelude.{◌≡◌, ℕ, ◌+◌, ◌<◌, ◌≤◌, List, length, filter_map}
use Rattle.w4_defs.specs.declared.module.ImportKind.{ImportKind}
use Rattle.w4_defs.specs.declared.module.ImportKind.TheVariants.{Func, Table, Memory, Global}
use Rattle.w4_defs.specs.declared.module.ExportKind.{ExportKind}
use Rattle.w4_defs.specs.declared.module.ExportKind.TheVariants as kind
use Rattle.w4_defs.specs.Lookup.{function_indices, tables_of, memories_of, global_types, imported_function}
use Rattle.w4_defs.specs.Lookup.{imported_table, imported_memory, imported_global}
use Rattle.w4_defs.specs.Module.{Imported, WasmModule}
use Rattle.wasm_valid.specs.declared.counts.Counts.{Counts}

-- how many there are of a kind
abbrev pub count_of : Counts → ExportKind → ℕ
count_of c kind.Func = c.functions
count_of c kind.Table = c.tables
count_of c kind.Memory = c.memories
count_of c kind.Global = c.globals

abbrev pub IsCounted : Counts → ExportKind → ℕ → Type 0
IsCounted c kind index = index < count_of c kind

-- the counts with one more of this kind
abbrev pub counted_with : Counts → ImportKind → Counts
counted_with c (Func index) = record c { functions = c.functions + 1 }
counted_with c (Table limits) = record c { tables = c.tables + 1 }
counted_with c (Memory limits) = record c { memories = c.memories + 1 }
counted_with c (Global global) = record c { globals = c.globals + 1 }

-- the counts are those of these imports
pub record CountKinds (c : Counts) (is : List Imported) : Type 0 where
  pub functions : c.functions ≡ length (filter_map (λ i. imported_function i.kind) is)
  pub tables : c.tables ≡ length (filter_map (λ i. imported_table i.kind) is)
  pub memories : c.memories ≡ length (filter_map (λ i. imported_memory i.kind) is)
  pub globals : c.globals ≡ length (filter_map (λ i. imported_global i.kind) is)

-- the counts are those of the module, imports first
pub record AreCounts (c : Counts) (m : WasmModule) : Type 0 where
  pub functions : c.functions ≡ length (function_indices m)
  pub tables : c.tables ≡ length (tables_of m)
  pub memories : c.memories ≡ length (memories_of m)
  pub globals : c.globals ≡ length (global_types m)

-- no count exceeds the bound
pub record FitKinds (c : Counts) (bound : ℕ) : Type 0 where
  pub functions : c.functions ≤ bound
  pub tables : c.tables ≤ bound
  pub memories : c.memories ≤ bound
  pub globals : c.globals ≤ bound
