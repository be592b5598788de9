-- Which lists of instructions have a type (Core Specification, chapter 3, without floats): from which
-- operand types they lead to which, both from the bottom to the top.
use Rattle.std.specs.Prelude.{◌≡◌, ◌↔◌, ℕ, ◌<◌, nat_lt, if◌then◌else◌, List, [], ◌∷◌, ◌++◌, length, slice_get, Option, Some, None, option_and_then}
use Rattle.w4_defs.specs.declared.value.ValType.{ValType}
use Rattle.w4_defs.specs.declared.value.ValType.TheVariants.{I32, I64, F32, F64}
use Rattle.w4_defs.specs.declared.value.GlobalType.{GlobalType}
use Rattle.w4_defs.specs.declared.operation.Op.{Op}
use Rattle.w4_defs.specs.declared.operation.Op.TheVariants.{Unreachable, Nop, Br, BrIf, BrTable, Return, Call, CallIndirect, Drop, Select, LocalGet, LocalSet, LocalTee, GlobalGet, GlobalSet, Basic}
use Rattle.w4_defs.specs.Tree.{Mark, Expr, done, plain, block, loop, if_then, if_else}
use Rattle.w4_defs.specs.Module.{Signature, Function, WasmModule}
use Rattle.w4_defs.specs.Lookup.{signature_of, global_types, tables_of, memories_of, local_types}
use Rattle.w4_defs.specs.ValueTypes.{result_types}
use Rattle.w4_defs.specs.OperandTypes.{StackType, stack_type_if, gives, unary_type, basic_type}

-- what a list stands in: its module, the types of the locals, of the enclosing labels, the innermost
-- first, and of the function's results
pub record Context : Type 0 where
  pub within : WasmModule
  pub locals : List ValType
  pub labels : List (List ValType)
  pub results : List ValType

abbrev pub with_label : List ValType → Context → Context
with_label label c = record c { labels = label ∷ c.labels }

abbrev pub consumes : ValType → Option StackType
consumes t = Some (t ∷ [], [])

abbrev pub sets : GlobalType → Option StackType
sets g = stack_type_if g.mutable (g.value ∷ []) []

abbrev pub branches : List ValType → Option StackType
branches label = Some (label ++ I32 ∷ [], label)

abbrev pub calls : Signature → Option StackType
calls s = Some (s.params, s.results)

abbrev pub calls_indirectly : Signature → Option StackType
calls_indirectly s = Some (s.params ++ I32 ∷ [], s.results)

-- what an instruction takes and gives, where that is determined
abbrev pub only_type : Context → Op → Option StackType
only_type c Nop = Some ([], [])
only_type c (BrIf label) = option_and_then branches (slice_get c.labels label)
only_type c (Call func) = option_and_then calls (signature_of c.within func)
only_type c (CallIndirect signature table) =
    if nat_lt table (length (tables_of c.within))
    then option_and_then calls_indirectly (slice_get c.within.types signature) else None
only_type c (LocalGet index) = option_and_then gives (slice_get c.locals index)
only_type c (LocalSet index) = option_and_then consumes (slice_get c.locals index)
only_type c (LocalTee index) = option_and_then unary_type (slice_get c.locals index)
only_type c (GlobalGet index) = option_and_then (λ g. gives g.value) (slice_get (global_types c.within) index)
only_type c (GlobalSet index) = option_and_then sets (slice_get (global_types c.within) index)
only_type c (Basic i) = basic_type (nat_lt 0 (length (memories_of c.within))) i
only_type c _ = None

-- a type that a typing may choose
abbrev pub IsInt : ValType → Type 0
IsInt I32 = Unit {0}
IsInt I64 = Unit {0}
IsInt F32 = ⊥
IsInt F64 = ⊥

abbrev pub AreInt : List ValType → Type 0
AreInt [] = Unit {0}
AreInt (t ∷ ts) = IsInt t × AreInt ts

-- each of these labels has this type
abbrev pub AreLabels : Context → List ValType → List ℕ → Type 0
AreLabels c label [] = Unit {0}
AreLabels c label (l ∷ labels) = (slice_get c.labels l ≡ Some label) × AreLabels c label labels

-- the operation, with the labels that it has as a br_table, takes a and gives b
abbrev pub OperationHasType : Context → Op → List ℕ → List ValType → List ValType → Type 0
OperationHasType c Unreachable labels a b = AreInt a × AreInt b
OperationHasType c (Br l) labels a b =
    (below label : List ValType) × (slice_get c.labels l ≡ Some label) × (a ≡ below ++ label) × AreInt below
    × AreInt b
OperationHasType c BrTable labels a b =
    (below label : List ValType) × (0 < length labels) × AreLabels c label labels
    × (a ≡ below ++ label ++ I32 ∷ [])
    × AreInt below × AreInt b
OperationHasType c Return labels a b =
    (below : List ValType) × (a ≡ below ++ c.results) × AreInt below × AreInt b
OperationHasType c Drop labels a b = (t : ValType) × IsInt t × (a ≡ t ∷ []) × (b ≡ [])
OperationHasType c Select labels a b = (t : ValType) × IsInt t × (a ≡ t ∷ t ∷ I32 ∷ []) × (b ≡ t ∷ [])
OperationHasType c op labels a b = only_type c op ≡ Some (a, b)

-- the instruction leads from ins to outs: what lies below what it takes stays
abbrev pub Leads : Context → Mark → List ValType → List ValType → Type 0
Leads c m ins outs =
    (ts a b : List ValType) × (ins ≡ ts ++ a) × OperationHasType c m.0 m.1 a b × (outs ≡ ts ++ b)

-- the list has the type ins -> outs
abbrev pub HasType : Context → Expr → List ValType → List ValType → Type 0
HasType c done ins outs = ins ≡ outs
HasType c (plain m rest) ins outs = (mid : List ValType) × Leads c m ins mid × HasType c rest mid outs
HasType c (block r inner rest) ins outs =
    HasType (with_label (result_types r) c) inner [] (result_types r)
    × HasType c rest (ins ++ result_types r) outs
HasType c (loop r inner rest) ins outs =
    HasType (with_label [] c) inner [] (result_types r) × HasType c rest (ins ++ result_types r) outs
HasType c (if_then r taken rest) ins outs =
    (r ≡ None) × (ts : List ValType) × (ins ≡ ts ++ I32 ∷ []) × HasType (with_label [] c) taken [] []
    × HasType c rest ts outs
HasType c (if_else r taken other rest) ins outs =
    (ts : List ValType) × (ins ≡ ts ++ I32 ∷ [])
    × HasType (with_label (result_types r) c) taken [] (result_types r)
    × HasType (with_label (result_types r) c) other [] (result_types r)
    × HasType c rest (ts ++ result_types r) outs

-- a body stands under its locals, the parameters first, and one label, whose type is the results
abbrev pub body_context : WasmModule → Signature → Function → Context
body_context m s f =
    record {
      within = m;
      locals = s.params ++ local_types f.runs;
      labels = s.results ∷ [];
      results = s.results;
    }

-- a body has the type that its function's type index names
abbrev pub BodyHasType : WasmModule → ℕ → Function → Type 0
BodyHasType m index f =
    (s : Signature) × (slice_get m.types index ≡ Some s) × HasType (body_context m s f) f.list [] s.results

-- one list, and then another
abbrev pub followed_by : Expr → Expr → Expr
followed_by done tail = tail
followed_by (plain m rest) tail = plain m (followed_by rest tail)
followed_by (block r inner rest) tail = block r inner (followed_by rest tail)
followed_by (loop r inner rest) tail = loop r inner (followed_by rest tail)
followed_by (if_then r taken rest) tail = if_then r taken (followed_by rest tail)
followed_by (if_else r taken other rest) tail = if_else r taken other (followed_by rest tail)

-- a list has a type if and only if its two parts have, wherever it is cut: so it may be read from its
-- first instruction on, as here, or from its last, as in the standard
abbrev pub TypesInParts : Type 0
TypesInParts =
    (c : Context) (e tail : Expr) (ins outs : List ValType)
    → HasType c (followed_by e tail) ins outs
    ↔ ((mid : List ValType) × HasType c e ins mid × HasType c tail mid outs)
