-- When a module is valid (Core Specification, section 3.4, without floats): the module rules hold and
-- each own body has its type.
use Rattle.std.specs.Prelude.{◌≡◌, ◌≢◌, ℕ, ◌<◌, ◌≤◌, length, slice_get, Option, Some, None, option_map, All, AllPairs}
use Rattle.w4_defs.specs.declared.value.ValType.{ValType}
use Rattle.w4_defs.specs.declared.value.ValType.TheVariants.{I32}
use Rattle.w4_defs.specs.declared.value.Limits.{Limits}
use Rattle.w4_defs.specs.declared.operation.Op.{Op}
use Rattle.w4_defs.specs.declared.module.ExportKind.{ExportKind}
use Rattle.w4_defs.specs.declared.module.ExportKind.TheVariants.{Func, Table, Memory, Global}
use Rattle.w4_defs.specs.Tree.{Expr}
use Rattle.w4_defs.specs.Module.{ElementSegment, DataSegment, Function, WasmModule, nothing_to_nothing}
use Rattle.w4_defs.specs.ValueTypes.{type_of}
use Rattle.w4_defs.specs.Constants.{const_value, expression_value}
use Rattle.w4_defs.specs.Lookup.{function_indices, signature_of, tables_of, memories_of, global_types}
use Rattle.w4_defs.specs.Typing.{BodyHasType}

abbrev pub IsAtLeast : ℕ → Option ℕ → Type 0
IsAtLeast least None = Unit {0}
IsAtLeast least (Some greatest) = least ≤ greatest

abbrev pub IsAtMost : ℕ → Option ℕ → Type 0
IsAtMost bound None = Unit {0}
IsAtMost bound (Some greatest) = greatest ≤ bound

abbrev pub AreLimits : Limits → Type 0
AreLimits l = IsAtLeast l.least l.greatest

abbrev pub AreMemoryLimits : Limits → Type 0
AreMemoryLimits l = AreLimits l × (l.least ≤ 65536) × IsAtMost 65536 l.greatest

abbrev pub constant_type : Op → Option ValType
constant_type op = option_map type_of (const_value op)

-- a single constant of this type
abbrev pub IsConstant : ValType → Expr → Type 0
IsConstant t e = option_map type_of (expression_value e) ≡ Some t

-- an export's index names something, imports counted first
abbrev pub Exists : WasmModule → ExportKind → ℕ → Type 0
Exists m Func index = index < length (function_indices m)
Exists m Table index = index < length (tables_of m)
Exists m Memory index = index < length (memories_of m)
Exists m Global index = index < length (global_types m)

-- a start function exists, without parameters and results
abbrev pub IsStart : WasmModule → Option ℕ → Type 0
IsStart m None = Unit {0}
IsStart m (Some func) = signature_of m func ≡ Some nothing_to_nothing

abbrev pub IsElementSegment : WasmModule → ElementSegment → Type 0
IsElementSegment m s =
    (s.table ≡ 0) × (0 < length (tables_of m)) × IsConstant I32 s.offset
    × All (λ func. func < length (function_indices m)) s.functions

abbrev pub IsDataSegment : WasmModule → DataSegment → Type 0
IsDataSegment m s = (s.memory ≡ 0) × (0 < length (memories_of m)) × IsConstant I32 s.offset

-- the module rules
pub record KeepsModuleRules (m : WasmModule) : Type 0 where
  pub functions : All (λ index. index < length m.types) (function_indices m)
  pub one_table : length (tables_of m) ≤ 1
  pub one_memory : length (memories_of m) ≤ 1
  pub table_limits : All AreLimits (tables_of m)
  pub memory_limits : All AreMemoryLimits (memories_of m)
  pub globals : All (λ g. IsConstant g.global.value g.first) m.globals
  pub exports : All (λ e. Exists m e.kind e.index) m.exports
  pub export_names : AllPairs (λ e f. e.name ≢ f.name) m.exports
  pub start : IsStart m m.start
  pub elements : All (IsElementSegment m) m.elements
  pub segments : All (IsDataSegment m) m.segments

-- own function k, counted from 0, has a typing
abbrev pub IsTypedAt : WasmModule → ℕ → Type 0
IsTypedAt m k =
    (index : ℕ) × (f : Function) × (slice_get m.functions k ≡ Some index) × (slice_get m.bodies k ≡ Some f)
    × BodyHasType m index f

abbrev pub IsFirstUntyped : WasmModule → ℕ → Type 0
IsFirstUntyped m k = (k < length m.bodies) × ((j : ℕ) → j < k → IsTypedAt m j) × (IsTypedAt m k → ⊥)

abbrev pub IsValid : WasmModule → Type 0
IsValid m = KeepsModuleRules m × ((k : ℕ) → k < length m.bodies → IsTypedAt m k)
