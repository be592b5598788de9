-- Reading of what the sections hold (Core Specification, section 5.5).
use Rattle.std.specs.Prelude.{ℕ, ◌==◌, ◌^◌, nat_lt, if◌then◌else◌, List, [], ◌∷◌, None}
use Rattle.w4_defs.specs.declared.value.ValType.{ValType}
use Rattle.w4_defs.specs.declared.value.GlobalType.{GlobalType}
use Rattle.w4_defs.specs.declared.module.ImportKind.{ImportKind}
use Rattle.w4_defs.specs.declared.module.ImportKind.TheVariants as imports
use Rattle.w4_defs.specs.declared.module.ExportKind.{ExportKind}
use Rattle.w4_defs.specs.declared.module.ExportKind.TheVariants as exports
use Rattle.w4_defs.specs.declared.module.Locals.{Locals}
use Rattle.w4_defs.specs.Lookup.{local_count}
use Rattle.w4_defs.specs.Module.{Imported, Exported, Global, ElementSegment, DataSegment, Function}
use Rattle.w4_defs.specs.Tree.{Expr}
use Rattle.wasm_read.specs.Reader.{Reader, coded_at}
use Rattle.wasm_read.specs.ReadNumber.{unsigned_at}
use Rattle.wasm_read.specs.Combine.{both_at, mapped_at, tested_at, vector_at, whole_at, sized_bytes_at}
use Rattle.wasm_read.specs.Combine.{sized_at}
use Rattle.wasm_read.specs.ReadType.{name_at, value_type_at, limits_at, table_type_at, global_type_at}
use Rattle.wasm_read.specs.ReadExpression.{expression_at}

abbrev pub import_kind_after : ℕ → Reader ImportKind
import_kind_after code bs =
    if code == 0 then mapped_at imports.Func (unsigned_at 32) bs
    else (if code == 1 then mapped_at imports.Table table_type_at bs
    else (if code == 2 then mapped_at imports.Memory limits_at bs
    else (if code == 3 then mapped_at imports.Global global_type_at bs else None)))

abbrev pub import_kind_at : Reader ImportKind
import_kind_at [] = None
import_kind_at (code ∷ bs) = import_kind_after code bs

abbrev pub imported_of : List ℕ × (List ℕ × ImportKind) → Imported
imported_of x = record { module_name = x.0; name = x.1.0; kind = x.1.1 }

unfoldable pub import_at : Reader Imported
import_at = mapped_at imported_of (both_at name_at (both_at name_at import_kind_at))

abbrev pub global_of : GlobalType × Expr → Global
global_of x = record { global = x.0; first = x.1 }

unfoldable pub global_at : Reader Global
global_at = mapped_at global_of (both_at global_type_at expression_at)

abbrev pub export_kinds : List (ℕ × ExportKind)
export_kinds = (0, exports.Func) ∷ (1, exports.Table) ∷ (2, exports.Memory) ∷ (3, exports.Global) ∷ []

abbrev pub export_kind_at : Reader ExportKind
export_kind_at = coded_at export_kinds

abbrev pub exported_of : List ℕ × (ExportKind × ℕ) → Exported
exported_of x = record { name = x.0; kind = x.1.0; index = x.1.1 }

unfoldable pub export_at : Reader Exported
export_at = mapped_at exported_of (both_at name_at (both_at export_kind_at (unsigned_at 32)))

abbrev pub element_of : ℕ × (Expr × List ℕ) → ElementSegment
element_of x = record { table = x.0; offset = x.1.0; functions = x.1.1 }

unfoldable pub element_at : Reader ElementSegment
element_at =
    mapped_at element_of (both_at (unsigned_at 32) (both_at expression_at (vector_at (unsigned_at 32))))

abbrev pub locals_of : ℕ × ValType → Locals
locals_of x = record { count = x.0; kind = x.1 }

unfoldable pub run_at : Reader Locals
run_at = mapped_at locals_of (both_at (unsigned_at 32) value_type_at)

abbrev pub function_of : List Locals × Expr → Function
function_of x = record { runs = x.0; list = x.1 }

unfoldable pub function_at : Reader Function
function_at =
    tested_at (λ f. nat_lt (local_count f.runs) (2 ^ 32))
    (mapped_at function_of (both_at (vector_at run_at) expression_at))

unfoldable pub body_at : Reader Function
body_at = sized_at (whole_at function_at)

abbrev pub segment_of : ℕ × (Expr × List ℕ) → DataSegment
segment_of x = record { memory = x.0; offset = x.1.0; bytes = x.1.1 }

unfoldable pub segment_at : Reader DataSegment
segment_at = mapped_at segment_of (both_at (unsigned_at 32) (both_at expression_at sized_bytes_at))
