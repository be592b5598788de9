-- The binary format can encode a made module, and its encoding has at most 65,536 bytes: it is a cart.
use lib.Utf8.{encode}
use Rattle.std.proofs.Common.{◌≡◌, refl, ℕ, zero, suc, ◌+◌, ◌*◌, ◌%◌, ◌^◌, ◌<◌, ◌≤◌, List, [], ◌∷◌, ◌++◌}
use Rattle.std.proofs.Common.{length, map, replicate, Some, ap, sym, subst, arith, append_assoc}
use Rattle.std.proofs.Common.{length-append}
use Rattle.std.specs.Prelude.{flat_map, IsUtf8, codes}
use Rattle.std.specs.List.{range_with_len, AllByRecursion}
use Rattle.std.proofs.lemmas.List.Elements.{All-from_recursion}
use Rattle.w4_defs.specs.declared.module.Locals.{Locals}
use Rattle.w4_defs.specs.declared.operation.Op.{Op}
use Rattle.w4_defs.specs.declared.operation.Op.TheVariants.{LocalGet, Call, Basic}
use Rattle.w4_defs.specs.declared.basic.Basic.TheVariants.{I32Const, I32Load, I32Load8U, I32Store, I32Add}
use Rattle.w4_defs.specs.BinaryNumber.{LastUnsigned, LastSigned}
use Rattle.w4_defs.specs.BinaryModule.{preamble}
use Rattle.w4_defs.specs.Tree.{Expr, mark, sequence}
use Rattle.w4_defs.specs.Module.{Function}
use Rattle.w4_defs.specs.Generator.{draw, operations, chosen, small_function, step_of, byte_at}
use Rattle.w4_defs.specs.Generator.{update_function, made_types, made_imports, made_module}
use Rattle.w4_defs.proofs.GeneratorLaws.{draws_are_small, made_modules_are_accepted}
use Rattle.w4_defs.specs.EncodeNumber.{unsigned_bytes, signed_bytes}
use Rattle.w4_defs.specs.EncodeType.{vector_bytes, func_type_bytes, limits_bytes, table_type_bytes}
use Rattle.w4_defs.specs.EncodeInstruction.{instruction_bytes, list_bytes, expression_bytes}
use Rattle.w4_defs.specs.EncodeModule.{imported_bytes, global_bytes, exported_bytes, element_bytes}
use Rattle.w4_defs.specs.EncodeModule.{data_segment_bytes, locals_bytes, function_bytes, body_bytes}
use Rattle.w4_defs.specs.EncodeModule.{section_bytes, first_sections, last_sections, module_bytes}
use Rattle.wasm_write.specs.Fits.{IndexFits, NameFits, LabelledFits, ExpressionFits, SectionFits, TypeFits}
use Rattle.wasm_write.specs.Fits.{LimitsFit, ImportFits, GlobalFits, ExportFits, ElementFits, FunctionFits}
use Rattle.wasm_write.specs.Fits.{SegmentFits, ModuleFits}
use Rattle.wasm_write.specs.Laws.{MadeModulesAreCarts}
use Rattle.wasm_write.proofs.NumberLaws.{unsigned_encodes, signed_encodes}
use Rattle.wasm_write.proofs.ModuleLaws.{leb_is_short, module_encodes}

-- ---- operations

index_short : (n : ℕ) → n < 2 ^ 32 → length (unsigned_bytes n) ≤ 5
index_short n h = omega (arith, leb_is_short LastUnsigned 32 n (unsigned_bytes n) (unsigned_encodes 32 n h))

constant_short : (n : ℕ) → n < 2 ^ 32 → length (signed_bytes 32 n) ≤ 5
constant_short n h = omega (arith, leb_is_short LastSigned 32 n (signed_bytes 32 n) (signed_encodes 32 n h))

IsShort : Op → Type 0
IsShort op = LabelledFits op [] × (length (instruction_bytes (mark op)) ≤ 11)

local-short : (n : ℕ) → n < 2 ^ 32 → IsShort (LocalGet n)
unfolding IsShort
local-short n h = ((refl, h), omega (arith, index_short n h))

constant-short : (n : ℕ) → n < 2 ^ 32 → IsShort (Basic (I32Const n))
unfolding IsShort
constant-short n h = ((refl, h), omega (arith, constant_short n h))

call-short : (n : ℕ) → n < 2 ^ 32 → IsShort (Call n)
unfolding IsShort
call-short n h = ((refl, h), omega (arith, index_short n h))

load-short : IsShort (Basic (I32Load 2 0))
unfolding IsShort unsigned_bytes
load-short = ((refl, (omega arith, omega arith)), omega arith)

byte-short : IsShort (Basic (I32Load8U 0 0))
unfolding IsShort unsigned_bytes
byte-short = ((refl, (omega arith, omega arith)), omega arith)

store-short : IsShort (Basic (I32Store 2 0))
unfolding IsShort unsigned_bytes
store-short = ((refl, (omega arith, omega arith)), omega arith)

all_short : AllByRecursion IsShort operations
unfolding IsShort
all_short =
    let one : 1 ≤ 11 = omega arith in (
      ((refl, tt), one),
      (
        ((refl, tt), one),
        (
          ((refl, tt), one),
          (
            ((refl, tt), one),
            (
              ((refl, tt), one),
              (
                ((refl, tt), one),
                (
                  ((refl, tt), one),
                  (
                    ((refl, tt), one),
                    (((refl, tt), one), (((refl, tt), one), (((refl, tt), one), tt))),
                  ),
                ),
              ),
            ),
          ),
        ),
      ),
    )

chosen-short : (drawn : ℕ) → IsShort (chosen drawn)
chosen-short drawn = All-from_recursion IsShort operations all_short (drawn % 11) (Basic I32Add) (omega arith)

-- ---- lists

sequence-fits : (ops : List Op) → AllByRecursion IsShort ops → ExpressionFits (sequence ops)
unfolding IsShort
sequence-fits [] h = tt
sequence-fits (op ∷ ops) h = (h.0.0, sequence-fits ops h.1)

sequence-short : (ops : List Op) → AllByRecursion IsShort ops
    → length (expression_bytes (sequence ops)) ≤ 11 * length ops + 1
unfolding IsShort list_bytes
sequence-short [] h = omega arith
sequence-short (op ∷ ops) h =
    let first : length (instruction_bytes (mark op)) ≤ 11 = h.0.1 in
    omega (
      arith,
      sequence-short ops h.1,
      length-append (instruction_bytes (mark op))
          (expression_bytes (sequence ops)),
    )

both_short : (xs ys : List Op) → AllByRecursion IsShort xs → AllByRecursion IsShort ys
    → AllByRecursion IsShort (xs ++ ys)
both_short [] ys h k = k
both_short (x ∷ xs) ys h k = (h.0, both_short xs ys h.1 k)

step-short : (g : ℕ) → g < 64 → AllByRecursion IsShort (step_of g)
step-short g h =
    let address : 6560 + 4 * g < 2 ^ 32 = omega arith in (
      constant-short (6560 + 4 * g) address,
      (
        constant-short (6560 + 4 * g) address,
        (
          load-short,
          (
            constant-short 22 (omega arith),
            (byte-short, (call-short (g + 1) (omega arith), (store-short, tt))),
          ),
        ),
      ),
    )

steps-short : (start count : ℕ) → start + count ≤ 64
    → AllByRecursion IsShort (flat_map step_of (range_with_len start count))
steps-short start zero h = tt
steps-short start (suc count) h =
    both_short
    (step_of start)
    (flat_map step_of (range_with_len (start + 1) count))
    (step-short start (omega arith))
    (steps-short (start + 1) count (omega arith))

steps-count : (start count : ℕ) → length (flat_map step_of (range_with_len start count)) ≡ 7 * count
steps-count start zero = refl
steps-count start (suc count) =
    omega (
      arith,
      steps-count (start + 1) count,
      length-append (step_of start) (flat_map step_of (range_with_len (start + 1) count)),
    )

rectangle : List Op
rectangle = flat_map byte_at (6560 ∷ 6564 ∷ 6568 ∷ 6572 ∷ []) ++ Call 0 ∷ []

rectangle-short : AllByRecursion IsShort rectangle
unfolding rectangle
rectangle-short = (
  constant-short 6560 (omega arith),
  (
    byte-short,
    (
      constant-short 6564 (omega arith),
      (
        byte-short,
        (
          constant-short 6568 (omega arith),
          (byte-short, (constant-short 6572 (omega arith), (byte-short, (call-short 0 (omega arith), tt)))),
        ),
      ),
    ),
  ),
)

-- ---- functions

-- a function with no locals of its own, whose list is short
unfoldable pub plain_function : Expr → Function
plain_function list = record { runs = []; list = list }

pub plain-fits : (list : Expr) → ExpressionFits list → length (expression_bytes list) ≤ 6000
    → FunctionFits (plain_function list)
unfolding plain_function
plain-fits list fits short =
    let CountFits : Locals → Type 0 = λ run. IndexFits run.count in
    let none : length (vector_bytes locals_bytes []) ≤ 5 =
    omega (arith, index_short 0 (omega arith), length-append (unsigned_bytes 0) []) in (
      omega arith,
      (
        (omega arith, All-from_recursion CountFits [] tt),
        (fits, omega (arith, length-append (vector_bytes locals_bytes []) (expression_bytes list))),
      ),
    )

pub plain-short : (list : Expr) → length (expression_bytes list) ≤ 6000
    → length (body_bytes (plain_function list)) ≤ length (expression_bytes list) + 10
unfolding plain_function
plain-short list short =
    let none : length (vector_bytes locals_bytes []) ≤ 5 =
    omega (arith, index_short 0 (omega arith), length-append (unsigned_bytes 0) []) in
    let whole : length (function_bytes (plain_function list)) ≤ length (expression_bytes list) + 5 =
    omega (arith, length-append (vector_bytes locals_bytes []) (expression_bytes list)) in
    let size : length (unsigned_bytes (length (function_bytes (plain_function list)))) ≤ 5 =
    index_short (length (function_bytes (plain_function list))) (omega arith) in
    omega (
      arith,
      length-append (unsigned_bytes (length (function_bytes (plain_function list))))
          (function_bytes (plain_function list)),
    )

small-list : ℕ → ℕ → List Op
small-list number g =
    LocalGet 0 ∷ LocalGet 1 ∷ chosen (draw number (3 * g)) ∷ Basic (I32Const (draw number (3 * g + 1)))
    ∷ chosen (draw number (3 * g + 2)) ∷ []

small-list-short : (number g : ℕ) → AllByRecursion IsShort (small-list number g)
unfolding small-list
small-list-short number g =
    let value : draw number (3 * g + 1) < 2 ^ 32 = omega (arith, draws_are_small number (3 * g + 1)) in (
      local-short 0 (omega arith),
      (
        local-short 1 (omega arith),
        (
          chosen-short (draw number (3 * g)),
          (constant-short (draw number (3 * g + 1)) value, (chosen-short (draw number (3 * g + 2)), tt)),
        ),
      ),
    )

small-bytes : (number g : ℕ) → length (expression_bytes (sequence (small-list number g))) ≤ 56
unfolding small-list
small-bytes number g = omega (arith, sequence-short (small-list number g) (small-list-short number g))

small-fits : (number g : ℕ) → FunctionFits (small_function number g)
unfolding small_function small-list plain_function
small-fits number g =
    plain-fits
    (sequence (small-list number g))
    (sequence-fits (small-list number g) (small-list-short number g))
    (omega (arith, small-bytes number g))

small-short : (number g : ℕ) → length (body_bytes (small_function number g)) ≤ 66
unfolding small_function small-list plain_function
small-short number g =
    let short : length (expression_bytes (sequence (small-list number g))) ≤ 56 = small-bytes number g in
    omega (arith, plain-short (sequence (small-list number g)) (omega arith))

update-list : List Op
update-list = flat_map step_of (range_with_len 0 64) ++ rectangle

update-list-short : AllByRecursion IsShort update-list
unfolding update-list
update-list-short =
    both_short (flat_map step_of (range_with_len 0 64)) rectangle (steps-short 0 64 (omega arith))
    rectangle-short

rectangle-count : length rectangle ≡ 9
unfolding rectangle
rectangle-count = refl

update-count : length update-list ≡ 457
unfolding update-list
update-count = omega (
  arith,
  length-append (flat_map step_of (range_with_len 0 64)) rectangle,
  steps-count 0 64,
  rectangle-count,
)

update-bytes : length (expression_bytes (sequence update-list)) ≤ 5028
update-bytes = omega (arith, sequence-short update-list update-list-short, update-count)

update-is : update_function ≡ plain_function (sequence update-list)
unfolding update_function plain_function update-list rectangle
update-is = ap (λ ops. record { runs = []; list = sequence ops })
    (append_assoc (flat_map step_of (range_with_len 0 64))
    (flat_map byte_at (6560 ∷ 6564 ∷ 6568 ∷ 6572 ∷ [])) (Call 0 ∷ []))

update-fits : FunctionFits update_function
update-fits =
    subst FunctionFits (sym update-is)
    (plain-fits (sequence update-list) (sequence-fits update-list update-list-short)
    (omega (arith, update-bytes)))

update-short : length (body_bytes update_function) ≤ 5038
update-short =
    let Short : Function → Type 0 = λ f. length (body_bytes f) ≤ 5038 in
    subst Short (sym update-is)
    (omega (arith, update-bytes, plain-short (sequence update-list) (omega (arith, update-bytes))))

-- ---- bodies

bodies_from : ℕ → ℕ → ℕ → List Function
bodies_from number start count = map (small_function number) (range_with_len start count)
    ++ update_function ∷ []

bodies-fit : (number start count : ℕ) → AllByRecursion FunctionFits (bodies_from number start count)
unfolding bodies_from
bodies-fit number start zero = (update-fits, tt)
bodies-fit number start (suc count) = (small-fits number start, bodies-fit number (start + 1) count)

bodies-count : (number start count : ℕ) → length (bodies_from number start count) ≡ count + 1
unfolding bodies_from
bodies-count number start zero = refl
bodies-count number start (suc count) = omega (arith, bodies-count number (start + 1) count)

bodies-short : (number start count : ℕ)
    → length (flat_map body_bytes (bodies_from number start count)) ≤ 66 * count + 5038
unfolding bodies_from
bodies-short number start zero = omega (arith, update-short, length-append (body_bytes update_function) [])
bodies-short number start (suc count) =
    omega (
      arith,
      small-short number start,
      bodies-short number (start + 1) count,
      length-append (body_bytes (small_function number start))
          (flat_map body_bytes (bodies_from number (start + 1) count)),
    )

-- the contents of the section of the bodies
code-short : (number : ℕ) → length (vector_bytes body_bytes (bodies_from number 0 64)) ≤ 9267
code-short number =
    let count : length (bodies_from number 0 64) ≡ 65 = bodies-count number 0 64 in
    let size : length (unsigned_bytes (length (bodies_from number 0 64))) ≤ 5 =
    index_short (length (bodies_from number 0 64)) (omega arith) in
    omega (
      arith,
      bodies-short number 0 64,
      length-append (unsigned_bytes (length (bodies_from number 0 64)))
          (flat_map body_bytes (bodies_from number 0 64)),
    )

code-fits : (number : ℕ) → SectionFits FunctionFits body_bytes (bodies_from number 0 64)
code-fits number = (
  (
    omega (arith, bodies-count number 0 64),
    All-from_recursion FunctionFits (bodies_from number 0 64) (bodies-fit number 0 64),
  ),
  omega (arith, code-short number),
)

-- ---- the module

types-fit : SectionFits TypeFits func_type_bytes made_types
unfolding unsigned_bytes
types-fit =
    let one : (0 ≤ 1) × (0 < 2 ^ 32) = (omega arith, omega arith) in
    let two : (1 ≤ 1) × (2 < 2 ^ 32) = (omega arith, omega arith) in
    let three : (0 ≤ 1) × (4 < 2 ^ 32) = (omega arith, omega arith) in
    let size : length (vector_bytes func_type_bytes made_types) ≡ 17 = refl in
    ((omega arith, All-from_recursion TypeFits made_types (one, (two, (three, tt)))), omega arith)

ascii_fits : (name : List ℕ) → length name ≤ 6 → IsUtf8 name → NameFits name
ascii_fits name few text = (omega arith, text)

env-fits : NameFits (codes "env")
unfolding encode
env-fits = ascii_fits (codes "env") (omega arith) (codes "env", (refl, refl))

imports-fit : SectionFits ImportFits imported_bytes made_imports
unfolding unsigned_bytes encode
imports-fit =
    let rect : NameFits (codes "rect") =
    ascii_fits (codes "rect") (omega arith) (codes "rect", (refl, refl)) in
    let memory : NameFits (codes "memory") =
    ascii_fits (codes "memory") (omega arith) (codes "memory", (refl, refl)) in
    let index : 2 < 2 ^ 32 = omega arith in
    let pages : (1 < 2 ^ 32) × (1 < 2 ^ 32) = (omega arith, omega arith) in
    let size : length (vector_bytes imported_bytes made_imports) ≡ 27 = refl in (
      (
        omega arith,
        All-from_recursion ImportFits made_imports
            ((env-fits, (rect, index)), ((env-fits, (memory, pages)), tt)),
      ),
      omega arith,
    )

ones-fit : (n : ℕ) → AllByRecursion IndexFits (replicate n 1 ++ 0 ∷ [])
ones-fit zero = (omega arith, tt)
ones-fit (suc n) = (omega arith, ones-fit n)

functions-fit : SectionFits IndexFits unsigned_bytes (replicate 64 1 ++ 0 ∷ [])
unfolding unsigned_bytes
functions-fit =
    let indices : List ℕ = replicate 64 1 ++ 0 ∷ [] in
    let count : length indices ≡ 65 = refl in
    let size : length (vector_bytes unsigned_bytes indices) ≡ 66 = refl in
    ((omega arith, All-from_recursion IndexFits indices (ones-fit 64)), omega arith)

exports-fit : (number : ℕ) → SectionFits ExportFits exported_bytes (made_module number).exports
unfolding unsigned_bytes encode
exports-fit number =
    let update : NameFits (codes "update") =
    ascii_fits (codes "update") (omega arith) (codes "update", (refl, refl)) in
    let index : 65 < 2 ^ 32 = omega arith in
    let size : length (vector_bytes exported_bytes (made_module number).exports) ≡ 10 = refl in (
      (omega arith, All-from_recursion ExportFits (made_module number).exports ((update, index), tt)),
      omega arith,
    )

pub nothing-fits : {A : Type 0} (Fits : A → Type 0) (encode : A → List ℕ) → SectionFits Fits encode []
nothing-fits Fits encode = (
  (omega arith, All-from_recursion Fits [] tt),
  omega (arith, index_short 0 (omega arith), length-append (unsigned_bytes 0) []),
)

exports-short : (number : ℕ) → length (vector_bytes exported_bytes (made_module number).exports) ≤ 20
unfolding unsigned_bytes
exports-short number =
    let size : length (vector_bytes exported_bytes (made_module number).exports) ≡ 10 = refl in
    omega arith

pub made_fits : (number : ℕ) → ModuleFits (made_module number)
unfolding bodies_from
made_fits number = record {
  types = types-fit;
  imports = imports-fit;
  functions = functions-fit;
  tables = nothing-fits LimitsFit table_type_bytes;
  memories = nothing-fits LimitsFit limits_bytes;
  globals = nothing-fits GlobalFits global_bytes;
  exports = exports-fit number;
  start = tt;
  elements = nothing-fits ElementFits element_bytes;
  bodies = code-fits number;
  segments = nothing-fits SegmentFits data_segment_bytes;
  as_many = sym (bodies-count number 0 64);
}

-- ---- the length

first-length : (number : ℕ) → length (first_sections (made_module number)) ≡ 116
unfolding first_sections unsigned_bytes
first-length number = refl

section-short : (id : ℕ) (contents : List ℕ) → length contents < 2 ^ 32
    → length (section_bytes id (Some contents)) ≤ length contents + 6
section-short id contents h =
    omega (arith, index_short (length contents) h, length-append (unsigned_bytes (length contents)) contents)

last-short : (number : ℕ) → length (last_sections (made_module number)) ≤ 9300
unfolding last_sections bodies_from
last-short number =
    let exports : List ℕ = vector_bytes exported_bytes (made_module number).exports in
    let bodies : List ℕ = vector_bytes body_bytes (bodies_from number 0 64) in
    let few : length exports ≤ 20 = exports-short number in
    let e : length (section_bytes 7 (Some exports)) ≤ 26 =
    omega (arith, few, section-short 7 exports (omega (arith, few))) in
    let b : length (section_bytes 10 (Some bodies)) ≤ 9273 =
    omega (arith, code-short number, section-short 10 bodies (omega (arith, code-short number))) in
    omega (
      arith,
      length-append (section_bytes 7 (Some exports) ++ [] ++ []) (section_bytes 10 (Some bodies)),
      length-append (section_bytes 7 (Some exports) ++ [] ++ [] ++ section_bytes 10 (Some bodies)) [],
      length-append (section_bytes 7 (Some exports) ++ []) [],
      length-append (section_bytes 7 (Some exports)) [],
    )

pub made_is_short : (number : ℕ) → length (module_bytes (made_module number)) ≤ 65536
unfolding module_bytes
made_is_short number =
    let m = made_module number in
    omega (
      arith,
      first-length number,
      last-short number,
      length-append preamble (first_sections m),
      length-append (preamble ++ first_sections m) (last_sections m),
    )

pub made_modules_are_carts : MadeModulesAreCarts
made_modules_are_carts number =
    let accepted = made_modules_are_accepted number in (
      made_is_short number,
      module_encodes (made_module number) (made_fits number),
      accepted.0,
      accepted.1,
    )
