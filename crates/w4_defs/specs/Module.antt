-- A module as a record of lists (Core Specification, section 2.5). Names are the bytes of their text;
-- functions are the type indices of own functions, segments the data segments.
use Rattle.std.specs.Prelude.{ℕ, List, Option, []}
use Rattle.w4_defs.specs.declared.value.ValType.{ValType}
use Rattle.w4_defs.specs.declared.value.Limits.{Limits}
use Rattle.w4_defs.specs.declared.value.GlobalType.{GlobalType}
use Rattle.w4_defs.specs.declared.module.ImportKind.{ImportKind}
use Rattle.w4_defs.specs.declared.module.ExportKind.{ExportKind}
use Rattle.w4_defs.specs.declared.module.Locals.{Locals}
use Rattle.w4_defs.specs.Tree.{Expr}

-- a function type
pub record Signature : Type 0 where
  pub params : List ValType
  pub results : List ValType

-- the type of a function that takes and gives nothing
abbrev pub nothing_to_nothing : Signature
nothing_to_nothing = record { params = []; results = [] }

pub record Imported : Type 0 where
  pub module_name : List ℕ
  pub name : List ℕ
  pub kind : ImportKind

pub record Exported : Type 0 where
  pub name : List ℕ
  pub kind : ExportKind
  pub index : ℕ

pub record Global : Type 0 where
  pub global : GlobalType
  pub first : Expr

pub record ElementSegment : Type 0 where
  pub table : ℕ
  pub offset : Expr
  pub functions : List ℕ

pub record DataSegment : Type 0 where
  pub memory : ℕ
  pub offset : Expr
  pub bytes : List ℕ

-- an own function's code: its runs of locals, as they are written, and its expression
pub record Function : Type 0 where
  pub runs : List Locals
  pub list : Expr

pub record WasmModule : Type 0 where
  pub types : List Signature
  pub imports : List Imported
  pub functions : List ℕ
  pub tables : List Limits
  pub memories : List Limits
  pub globals : List Global
  pub exports : List Exported
  pub start : Option ℕ
  pub elements : List ElementSegment
  pub bodies : List Function
  pub segments : List DataSegment
