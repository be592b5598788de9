-- Which modules the binary format can encode: each count and index is below 2^32, each constant fits its
-- width, the locals of a function number fewer than 2^32, each section and each body has fewer than 2^32
-- bytes, all names are UTF-8, a float variant has a code of the format, each type has at most one result, and
-- there are as many bodies as type indices of own functions.
use Rattle.std.specs.Prelude.{◌≡◌, ℕ, ◌^◌, ◌<◌, ◌≤◌, List, [], length, All, IfSome, IsUtf8}
use Rattle.w4_defs.specs.declared.value.Limits.{Limits}
use Rattle.w4_defs.specs.declared.operation.Op.{Op}
use Rattle.w4_defs.specs.declared.operation.Op.TheVariants as op
use Rattle.w4_defs.specs.declared.operation.Op.TheVariants.{Block, Loop, If, Else, End, BrTable, Br, BrIf}
use Rattle.w4_defs.specs.declared.operation.Op.TheVariants.{Call, CallIndirect, LocalGet, LocalSet, LocalTee}
use Rattle.w4_defs.specs.declared.operation.Op.TheVariants.{GlobalGet, GlobalSet}
use Rattle.w4_defs.specs.declared.basic.Basic.{Basic}
use Rattle.w4_defs.specs.declared.basic.Basic.TheVariants.{F32Const, F64Const, FloatMemory, FloatPlain}
use Rattle.w4_defs.specs.declared.basic.Basic.TheVariants.{FloatCut}
use Rattle.w4_defs.specs.declared.instruction_table.IntegerType.TheVariants.{I32, I64}
use Rattle.w4_defs.specs.declared.instruction_table.Row.{Row}
use Rattle.w4_defs.specs.declared.instruction_table.Row.TheVariants.{Const, Load, Store}
use Rattle.w4_defs.specs.declared.module.ImportKind.{ImportKind}
use Rattle.w4_defs.specs.declared.module.ImportKind.TheVariants as imports
use Rattle.w4_defs.specs.BinaryBasic.{IsFloatCode, IsFloatAccess}
use Rattle.w4_defs.specs.InstructionTable.{row}
use Rattle.w4_defs.specs.Lookup.{local_count}
use Rattle.w4_defs.specs.Module.{Signature, Imported, Exported, Global, ElementSegment, DataSegment, Function}
use Rattle.w4_defs.specs.Module.{WasmModule}
use Rattle.w4_defs.specs.Tree.{Expr, done, plain, block, loop, if_then, if_else}
use Rattle.w4_defs.specs.EncodeNumber.{unsigned_bytes}
use Rattle.w4_defs.specs.EncodeType.{vector_bytes, func_type_bytes, limits_bytes, table_type_bytes}
use Rattle.w4_defs.specs.EncodeModule.{imported_bytes, global_bytes, exported_bytes, element_bytes}
use Rattle.w4_defs.specs.EncodeModule.{function_bytes, body_bytes, data_segment_bytes}

-- an index, a count or a size
abbrev pub IndexFits : ℕ → Type 0
IndexFits n = n < 2 ^ 32

abbrev pub VectorFits : {A : Type 0} → (A → Type 0) → List A → Type 0
VectorFits Fits xs = IndexFits (length xs) × All Fits xs

abbrev pub NameFits : List ℕ → Type 0
NameFits codes = IndexFits (length codes) × IsUtf8 codes

abbrev pub ImmediateFits : ℕ → ℕ → Type 0
ImmediateFits align offset = IndexFits align × IndexFits offset

abbrev pub RowFits : Row → Type 0
RowFits (Const I32 value) = value < 2 ^ 32
RowFits (Const I64 value) = value < 2 ^ 64
RowFits (Load t bytes sign align offset) = ImmediateFits align offset
RowFits (Store t bytes align offset) = ImmediateFits align offset
RowFits _ = Unit {0}

abbrev pub BasicFits : Basic → Type 0
BasicFits (F32Const bits) = bits < 2 ^ 32
BasicFits (F64Const bits) = bits < 2 ^ 64
BasicFits (FloatMemory code align offset) = IsFloatAccess code × ImmediateFits align offset
BasicFits (FloatPlain code) = IsFloatCode code
BasicFits (FloatCut code) = code ≤ 7
BasicFits i = RowFits (row i)

-- an instruction that holds no list and has no labels
abbrev pub OperationFits : Op → Type 0
OperationFits (Br label) = label < 2 ^ 32
OperationFits (BrIf label) = label < 2 ^ 32
OperationFits (Call func) = func < 2 ^ 32
OperationFits (CallIndirect signature table) = (signature < 2 ^ 32) × (table < 2 ^ 32)
OperationFits (LocalGet index) = index < 2 ^ 32
OperationFits (LocalSet index) = index < 2 ^ 32
OperationFits (LocalTee index) = index < 2 ^ 32
OperationFits (GlobalGet index) = index < 2 ^ 32
OperationFits (GlobalSet index) = index < 2 ^ 32
OperationFits (op.Basic i) = BasicFits i
OperationFits (Block result end) = ⊥
OperationFits (Loop result end) = ⊥
OperationFits (If result other end) = ⊥
OperationFits Else = ⊥
OperationFits End = ⊥
OperationFits BrTable = ⊥
OperationFits _ = Unit {0}

-- only a br_table has labels, the default at least
abbrev pub LabelledFits : Op → List ℕ → Type 0
LabelledFits BrTable labels = (0 < length labels) × (length labels ≤ 2 ^ 32) × All IndexFits labels
LabelledFits op labels = (labels ≡ []) × OperationFits op

abbrev pub ExpressionFits : Expr → Type 0
ExpressionFits done = Unit {0}
ExpressionFits (plain m rest) = LabelledFits m.0 m.1 × ExpressionFits rest
ExpressionFits (block r inner rest) = ExpressionFits inner × ExpressionFits rest
ExpressionFits (loop r inner rest) = ExpressionFits inner × ExpressionFits rest
ExpressionFits (if_then r taken rest) = ExpressionFits taken × ExpressionFits rest
ExpressionFits (if_else r taken other rest) =
    ExpressionFits taken × (ExpressionFits other × ExpressionFits rest)

abbrev pub TypeFits : Signature → Type 0
TypeFits s = (length s.results ≤ 1) × IndexFits (length s.params)

abbrev pub LimitsFit : Limits → Type 0
LimitsFit l = IndexFits l.least × IfSome l.greatest IndexFits

abbrev pub ImportKindFits : ImportKind → Type 0
ImportKindFits (imports.Func index) = IndexFits index
ImportKindFits (imports.Table l) = LimitsFit l
ImportKindFits (imports.Memory l) = LimitsFit l
ImportKindFits (imports.Global g) = Unit {0}

abbrev pub ImportFits : Imported → Type 0
ImportFits i = NameFits i.module_name × (NameFits i.name × ImportKindFits i.kind)

abbrev pub GlobalFits : Global → Type 0
GlobalFits g = ExpressionFits g.first

abbrev pub ExportFits : Exported → Type 0
ExportFits e = NameFits e.name × IndexFits e.index

abbrev pub ElementFits : ElementSegment → Type 0
ElementFits s = IndexFits s.table × (ExpressionFits s.offset × VectorFits IndexFits s.functions)

abbrev pub FunctionFits : Function → Type 0
FunctionFits f =
    (local_count f.runs < 2 ^ 32)
    × (VectorFits (λ run. IndexFits run.count) f.runs
    × (ExpressionFits f.list × IndexFits (length (function_bytes f))))

abbrev pub SegmentFits : DataSegment → Type 0
SegmentFits s = IndexFits s.memory × (ExpressionFits s.offset × IndexFits (length s.bytes))

-- the items of a section, and how long they are together
abbrev pub SectionFits : {A : Type 0} → (A → Type 0) → (A → List ℕ) → List A → Type 0
SectionFits Fits encode xs = VectorFits Fits xs × IndexFits (length (vector_bytes encode xs))

pub record ModuleFits (m : WasmModule) : Type 0 where
  pub types : SectionFits TypeFits func_type_bytes m.types
  pub imports : SectionFits ImportFits imported_bytes m.imports
  pub functions : SectionFits IndexFits unsigned_bytes m.functions
  pub tables : SectionFits LimitsFit table_type_bytes m.tables
  pub memories : SectionFits LimitsFit limits_bytes m.memories
  pub globals : SectionFits GlobalFits global_bytes m.globals
  pub exports : SectionFits ExportFits exported_bytes m.exports
  pub start : IfSome m.start IndexFits
  pub elements : SectionFits ElementFits element_bytes m.elements
  pub bodies : SectionFits FunctionFits body_bytes m.bodies
  pub segments : SectionFits SegmentFits data_segment_bytes m.segments
  pub as_many : length m.functions ≡ length m.bodies
