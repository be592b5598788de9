-- The bytes of types and of the items of sections encode them.
use Rattle.std.proofs.Common.{ℕ, ◌^◌, ◌<◌, Bool, true, false, List, [], ◌∷◌, length, Option, Some, None, refl}
use Rattle.std.proofs.Common.{arith}
use Rattle.std.specs.Prelude.{IfSome}
use Rattle.std.proofs.lemmas.List.Elements.{All-from_recursion}
use Rattle.std.specs.List.{AllByRecursion}
use Rattle.w4_defs.specs.declared.value.ValType.{ValType}
use Rattle.w4_defs.specs.declared.value.Limits.{Limits}
use Rattle.w4_defs.specs.declared.value.GlobalType.{GlobalType}
use Rattle.w4_defs.specs.declared.module.ImportKind.{ImportKind}
use Rattle.w4_defs.specs.declared.module.ImportKind.TheVariants as imports
use Rattle.w4_defs.specs.declared.module.ExportKind.{ExportKind}
use Rattle.w4_defs.specs.declared.module.ExportKind.TheVariants as exports
use Rattle.w4_defs.specs.declared.module.Locals.{Locals}
use Rattle.w4_defs.specs.BinaryText.{◌then◌, itself}
use Rattle.w4_defs.specs.BinaryNumber.{unsigned}
use Rattle.w4_defs.specs.BinaryType.{vector, bytes, utf8, name, value_type, func_type, sizes, limits}
use Rattle.w4_defs.specs.BinaryType.{table_type, mutability, global_type}
use Rattle.w4_defs.specs.BinaryInstruction.{expression}
use Rattle.w4_defs.specs.BinaryModule.{import_kind, imported, global, export_kind, exported, element}
use Rattle.w4_defs.specs.BinaryModule.{locals_run, function, body, segment}
use Rattle.w4_defs.specs.Module.{Signature, Imported, Exported, Global, ElementSegment, DataSegment, Function}
use Rattle.w4_defs.specs.EncodeNumber.{unsigned_bytes}
use Rattle.w4_defs.specs.EncodeType.{vector_bytes, sized_bytes, value_type_bytes, func_type_bytes}
use Rattle.w4_defs.specs.EncodeType.{sizes_bytes, limits_bytes, table_type_bytes, mutability_code}
use Rattle.w4_defs.specs.EncodeType.{global_type_bytes}
use Rattle.w4_defs.specs.EncodeInstruction.{expression_bytes}
use Rattle.w4_defs.specs.EncodeModule.{import_kind_bytes, imported_bytes, global_bytes, export_kind_code}
use Rattle.w4_defs.specs.EncodeModule.{exported_bytes, element_bytes, locals_bytes, function_bytes}
use Rattle.w4_defs.specs.EncodeModule.{body_bytes, data_segment_bytes}
use Rattle.wasm_write.specs.Fits.{IndexFits, VectorFits, NameFits, TypeFits, LimitsFit, ImportKindFits}
use Rattle.wasm_write.specs.Fits.{ImportFits, GlobalFits, ExportFits, ElementFits, FunctionFits, SegmentFits}
use Rattle.wasm_write.proofs.NumberLaws.{unsigned_encodes}
use Rattle.wasm_write.proofs.CombineLaws.{two_in_turn, three_in_turn, after_byte, vector_encodes}
use Rattle.wasm_write.proofs.CombineLaws.{sized_encodes}
use Rattle.wasm_write.proofs.InstructionLaws.{value_type_encodes, expression_encodes}

-- ---- names and types

name_encodes : (codes : List ℕ) → NameFits codes → name codes (sized_bytes codes)
name_encodes codes h = sized_encodes utf8 codes codes h.0 (h.1, refl)

bytes_encode : (bs : List ℕ) → IndexFits (length bs) → bytes bs (sized_bytes bs)
bytes_encode bs h = sized_encodes itself bs bs h refl

every_type : (ts : List ValType) → AllByRecursion (λ t. Unit {0}) ts
every_type [] = tt
every_type (t ∷ ts) = (tt, every_type ts)

types_encode : (ts : List ValType) → IndexFits (length ts)
    → vector value_type ts (vector_bytes value_type_bytes ts)
types_encode ts h =
    let Any : ValType → Type 0 = λ t. Unit {0} in
    vector_encodes value_type value_type_bytes Any (λ t _. value_type_encodes t) ts
    (h, All-from_recursion Any ts (every_type ts))

pub func_type_encodes : (s : Signature) → TypeFits s → func_type s (func_type_bytes s)
func_type_encodes s h =
    let few : length s.results < 2 ^ 32 = omega arith in (
      h.0,
      after_byte
          0x60
          (vector value_type s.params then vector value_type s.results)
          _
          (two_in_turn (vector value_type s.params) (vector value_type s.results) _ _
          (types_encode s.params h.1)
          (types_encode s.results few)),
    )

sizes_encode : (least : ℕ) (greatest : Option ℕ) → IndexFits least → IfSome greatest IndexFits
    → sizes least greatest (sizes_bytes least greatest)
sizes_encode least None h k =
    after_byte 0x00 (unsigned 32 least) (unsigned_bytes least) (unsigned_encodes 32 least h)
sizes_encode least (Some greatest) h k =
    after_byte
    0x01
    (unsigned 32 least then unsigned 32 greatest)
    _
    (two_in_turn (unsigned 32 least) (unsigned 32 greatest) _ _ (unsigned_encodes 32 least h)
    (unsigned_encodes 32 greatest k))

pub limits_encode : (l : Limits) → LimitsFit l → limits l (limits_bytes l)
limits_encode l h = sizes_encode l.least l.greatest h.0 h.1

pub table_type_encodes : (l : Limits) → LimitsFit l → table_type l (table_type_bytes l)
table_type_encodes l h = after_byte 0x70 (limits l) (limits_bytes l) (limits_encode l h)

mutability_encodes : (b : Bool) → mutability b (mutability_code b ∷ [])
mutability_encodes false = refl
mutability_encodes true = refl

global_type_encodes : (g : GlobalType) → global_type g (global_type_bytes g)
global_type_encodes g =
    two_in_turn (value_type g.value) (mutability g.mutable) (value_type_bytes g.value)
    (mutability_code g.mutable ∷ []) (value_type_encodes g.value) (mutability_encodes g.mutable)

-- ---- items of sections

import_kind_encodes : (kind : ImportKind) → ImportKindFits kind → import_kind kind (import_kind_bytes kind)
import_kind_encodes (imports.Func index) h =
    after_byte 0x00 (unsigned 32 index) (unsigned_bytes index) (unsigned_encodes 32 index h)
import_kind_encodes (imports.Table l) h =
    after_byte 0x01 (table_type l) (table_type_bytes l) (table_type_encodes l h)
import_kind_encodes (imports.Memory l) h = after_byte 0x02 (limits l) (limits_bytes l) (limits_encode l h)
import_kind_encodes (imports.Global g) h =
    after_byte 0x03 (global_type g) (global_type_bytes g) (global_type_encodes g)

pub import_encodes : (i : Imported) → ImportFits i → imported i (imported_bytes i)
import_encodes i h =
    three_in_turn
    (name i.module_name)
    (name i.name)
    (import_kind i.kind)
    (sized_bytes i.module_name)
    (sized_bytes i.name)
    (import_kind_bytes i.kind)
    (name_encodes i.module_name h.0)
    (name_encodes i.name h.1.0)
    (import_kind_encodes i.kind h.1.1)

pub global_encodes : (g : Global) → GlobalFits g → global g (global_bytes g)
global_encodes g h =
    two_in_turn (global_type g.global) (expression g.first) (global_type_bytes g.global)
    (expression_bytes g.first) (global_type_encodes g.global) (expression_encodes g.first h)

export_kind_encodes : (kind : ExportKind) → export_kind kind (export_kind_code kind ∷ [])
export_kind_encodes exports.Func = refl
export_kind_encodes exports.Table = refl
export_kind_encodes exports.Memory = refl
export_kind_encodes exports.Global = refl

pub export_encodes : (e : Exported) → ExportFits e → exported e (exported_bytes e)
export_encodes e h =
    three_in_turn
    (name e.name)
    (export_kind e.kind)
    (unsigned 32 e.index)
    (sized_bytes e.name)
    (export_kind_code e.kind ∷ [])
    (unsigned_bytes e.index)
    (name_encodes e.name h.0)
    (export_kind_encodes e.kind)
    (unsigned_encodes 32 e.index h.1)

pub indices_encode : (xs : List ℕ) → VectorFits IndexFits xs
    → vector (unsigned 32) xs (vector_bytes unsigned_bytes xs)
indices_encode xs h = vector_encodes (unsigned 32) unsigned_bytes IndexFits (unsigned_encodes 32) xs h

pub element_encodes : (s : ElementSegment) → ElementFits s → element s (element_bytes s)
element_encodes s h =
    three_in_turn
    (unsigned 32 s.table)
    (expression s.offset)
    (vector (unsigned 32) s.functions)
    (unsigned_bytes s.table)
    (expression_bytes s.offset)
    (vector_bytes unsigned_bytes s.functions)
    (unsigned_encodes 32 s.table h.0)
    (expression_encodes s.offset h.1.0)
    (indices_encode s.functions h.1.1)

locals_encode : (l : Locals) → IndexFits l.count → locals_run l (locals_bytes l)
locals_encode l h =
    two_in_turn (unsigned 32 l.count) (value_type l.kind) (unsigned_bytes l.count) (value_type_bytes l.kind)
    (unsigned_encodes 32 l.count h) (value_type_encodes l.kind)

function_encodes : (f : Function) → FunctionFits f → function f (function_bytes f)
function_encodes f h =
    let CountFits : Locals → Type 0 = λ run. IndexFits run.count in (
      h.0,
      two_in_turn
          (vector locals_run f.runs)
          (expression f.list)
          (vector_bytes locals_bytes f.runs)
          (expression_bytes f.list)
          (vector_encodes locals_run locals_bytes CountFits locals_encode f.runs h.1.0)
          (expression_encodes f.list h.1.1.0),
    )

pub body_encodes : (f : Function) → FunctionFits f → body f (body_bytes f)
body_encodes f h = sized_encodes function f (function_bytes f) h.1.1.1 (function_encodes f h)

pub segment_encodes : (s : DataSegment) → SegmentFits s → segment s (data_segment_bytes s)
segment_encodes s h =
    three_in_turn
    (unsigned 32 s.memory)
    (expression s.offset)
    (bytes s.bytes)
    (unsigned_bytes s.memory)
    (expression_bytes s.offset)
    (sized_bytes s.bytes)
    (unsigned_encodes 32 s.memory h.0)
    (expression_encodes s.offset h.1.0)
    (bytes_encode s.bytes h.1.1)
