-- The binary format can encode the module that has a section of each kind.
use lib.Utf8.{encode}
use Rattle.std.proofs.Common.{◌≡◌, refl, ℕ, ◌<◌, ◌≤◌, ◌^◌, List, [], ◌∷◌, length, arith}
use Rattle.std.specs.Prelude.{codes, IsUtf8}
use Rattle.std.proofs.lemmas.List.Elements.{All-from_recursion}
use Rattle.w4_defs.specs.EncodeNumber.{unsigned_bytes, signed_bytes}
use Rattle.w4_defs.specs.EncodeType.{vector_bytes, func_type_bytes, limits_bytes, table_type_bytes}
use Rattle.w4_defs.specs.EncodeInstruction.{list_bytes}
use Rattle.w4_defs.specs.EncodeModule.{imported_bytes, global_bytes, exported_bytes, element_bytes}
use Rattle.w4_defs.specs.EncodeModule.{body_bytes, data_segment_bytes, function_bytes}
use Rattle.wasm_write.specs.Fits.{IndexFits, VectorFits, NameFits, ExpressionFits, SectionFits, TypeFits}
use Rattle.wasm_write.specs.Fits.{LimitsFit, ImportFits, GlobalFits, ExportFits, ElementFits, FunctionFits}
use Rattle.wasm_write.specs.Fits.{SegmentFits, ModuleFits}
use Rattle.w4_defs.specs.Tree.{done}
use Rattle.w4_unit_tests.specs.WriteModules.{all_locals, all_sections, constant_list}

types-fit : SectionFits TypeFits func_type_bytes all_sections.types
unfolding unsigned_bytes
types-fit =
    let size : length (vector_bytes func_type_bytes all_sections.types) ≡ 10 = refl in (
      (
        omega arith,
        All-from_recursion TypeFits all_sections.types
            ((omega arith, omega arith), ((omega arith, omega arith), tt)),
      ),
      omega arith,
    )

name_fits : (name : List ℕ) → length name ≤ 6 → IsUtf8 name → NameFits name
name_fits name few text = (omega arith, text)

f-fits : NameFits (codes "f")
unfolding encode
f-fits = name_fits (codes "f") (omega arith) (codes "f", (refl, refl))

t-fits : NameFits (codes "t")
unfolding encode
t-fits = name_fits (codes "t") (omega arith) (codes "t", (refl, refl))

m-fits : NameFits (codes "m")
unfolding encode
m-fits = name_fits (codes "m") (omega arith) (codes "m", (refl, refl))

g-fits : NameFits (codes "g")
unfolding encode
g-fits = name_fits (codes "g") (omega arith) (codes "g", (refl, refl))

-- an e with an acute accent, which is U+00E9
accented-fits : NameFits (195 ∷ 169 ∷ [])
unfolding encode
accented-fits = name_fits (195 ∷ 169 ∷ []) (omega arith) (233 ∷ [], (refl, refl))

imports-fit : SectionFits ImportFits imported_bytes all_sections.imports
unfolding unsigned_bytes
imports-fit =
    let size : length (vector_bytes imported_bytes all_sections.imports) ≡ 31 = refl in
    let func : 1 < 2 ^ 32 = omega arith in
    let table : (1 < 2 ^ 32) × Unit {0} = (omega arith, tt) in
    let memory : (1 < 2 ^ 32) × (2 < 2 ^ 32) = (omega arith, omega arith) in (
      (
        omega arith,
        All-from_recursion ImportFits all_sections.imports (
          (m-fits, (f-fits, func)),
          (
            (m-fits, (t-fits, table)),
            ((m-fits, (accented-fits, memory)), ((m-fits, (g-fits, tt)), tt)),
          ),
        ),
      ),
      omega arith,
    )

functions-fit : SectionFits IndexFits unsigned_bytes all_sections.functions
unfolding unsigned_bytes
functions-fit =
    let size : length (vector_bytes unsigned_bytes all_sections.functions) ≡ 2 = refl in
    ((omega arith, All-from_recursion IndexFits all_sections.functions (omega arith, tt)), omega arith)

tables-fit : SectionFits LimitsFit table_type_bytes all_sections.tables
unfolding unsigned_bytes
tables-fit =
    let size : length (vector_bytes table_type_bytes all_sections.tables) ≡ 6 = refl in (
      (omega arith, All-from_recursion LimitsFit all_sections.tables ((omega arith, omega arith), tt)),
      omega arith,
    )

memories-fit : SectionFits LimitsFit limits_bytes all_sections.memories
unfolding unsigned_bytes
memories-fit =
    let size : length (vector_bytes limits_bytes all_sections.memories) ≡ 3 = refl in (
      (omega arith, All-from_recursion LimitsFit all_sections.memories ((omega arith, tt), tt)),
      omega arith,
    )

constant-fits : (value : ℕ) → value < 2 ^ 32 → ExpressionFits (constant_list value)
constant-fits value small = ((refl, small), tt)

globals-fit : SectionFits GlobalFits global_bytes all_sections.globals
unfolding unsigned_bytes signed_bytes list_bytes
globals-fit =
    let size : length (vector_bytes global_bytes all_sections.globals) ≡ 6 = refl in (
      (omega arith, All-from_recursion GlobalFits all_sections.globals (constant-fits 42 (omega arith), tt)),
      omega arith,
    )

exports-fit : SectionFits ExportFits exported_bytes all_sections.exports
unfolding unsigned_bytes
exports-fit =
    let size : length (vector_bytes exported_bytes all_sections.exports) ≡ 17 = refl in
    let index : 0 < 2 ^ 32 = omega arith in (
      (
        omega arith,
        All-from_recursion ExportFits all_sections.exports
            ((f-fits, index), ((t-fits, index), ((m-fits, index), ((g-fits, index), tt)))),
      ),
      omega arith,
    )

elements-fit : SectionFits ElementFits element_bytes all_sections.elements
unfolding unsigned_bytes signed_bytes list_bytes
elements-fit =
    let size : length (vector_bytes element_bytes all_sections.elements) ≡ 8 = refl in
    let functions : VectorFits IndexFits (0 ∷ 1 ∷ []) =
    (omega arith, All-from_recursion IndexFits (0 ∷ 1 ∷ []) (omega arith, (omega arith, tt))) in (
      (
        omega arith,
        All-from_recursion ElementFits all_sections.elements
            ((omega arith, (constant-fits 0 (omega arith), functions)), tt),
      ),
      omega arith,
    )

runs-fit : VectorFits (λ run. IndexFits run.count) all_locals
runs-fit = (
  omega arith,
  All-from_recursion (λ run. IndexFits run.count) all_locals (omega arith, (omega arith, tt)),
)

bodies-fit : SectionFits FunctionFits body_bytes all_sections.bodies
unfolding unsigned_bytes list_bytes
bodies-fit =
    let size : length (vector_bytes body_bytes all_sections.bodies) ≡ 8 = refl in
    let body : length (function_bytes (record { runs = all_locals; list = done })) ≡ 6 = refl in (
      (
        omega arith,
        All-from_recursion FunctionFits all_sections.bodies
            ((omega arith, (runs-fit, (tt, omega arith))), tt),
      ),
      omega arith,
    )

segments-fit : SectionFits SegmentFits data_segment_bytes all_sections.segments
unfolding unsigned_bytes signed_bytes list_bytes
segments-fit =
    let size : length (vector_bytes data_segment_bytes all_sections.segments) ≡ 9 = refl in (
      (
        omega arith,
        All-from_recursion SegmentFits all_sections.segments
            ((omega arith, (constant-fits 8 (omega arith), omega arith)), tt),
      ),
      omega arith,
    )

pub all_sections_fit : ModuleFits all_sections
all_sections_fit = record {
  types = types-fit;
  imports = imports-fit;
  functions = functions-fit;
  tables = tables-fit;
  memories = memories-fit;
  globals = globals-fit;
  exports = exports-fit;
  start = omega arith;
  elements = elements-fit;
  bodies = bodies-fit;
  segments = segments-fit;
  as_many = refl;
}
