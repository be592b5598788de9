-- No float comes to an abstract stack from a context without floats.
use Rattle.std.proofs.Common.{◌≡◌, Bool, true, false, ◌&&◌, cond, nat_le, nat_lt, ℕ, zero, suc, ◌^◌, length}
use Rattle.std.proofs.Common.{List, [], ◌∷◌, ◌++◌, map, reverse, Option, Some, None, option_and_then, refl}
use Rattle.std.proofs.Common.{sym, subst}
use Rattle.std.specs.Prelude.{All, IfSome, slice_get}
use Rattle.std.proofs.lemmas.Bool.{and_from}
use Rattle.std.proofs.lemmas.List.{reverse-append}
use Rattle.std.proofs.lemmas.List.Elements.{All-cons}
use Rattle.wasm_tree.proofs.MarkLaws.{got_all}
use Rattle.w4_defs.specs.declared.value.ValType.{ValType}
use Rattle.w4_defs.specs.declared.value.ValType.TheVariants.{I32, I64, F32, F64}
use Rattle.w4_defs.specs.declared.value.GlobalType.{GlobalType}
use Rattle.w4_defs.specs.declared.operation.Op.{Op}
use Rattle.w4_defs.specs.declared.operation.Op.TheVariants as op
use Rattle.w4_defs.specs.declared.instruction_table.IntegerType.{IntegerType}
use Rattle.w4_defs.specs.declared.instruction_table.IntegerType.TheVariants as integer
use Rattle.w4_defs.specs.declared.instruction_table.Row.{Row}
use Rattle.w4_defs.specs.declared.instruction_table.Row.TheVariants as stack
use Rattle.w4_defs.specs.InstructionTable.{value_type_of, row}
use Rattle.w4_defs.specs.ValueTypes.{same_type, result_types}
use Rattle.w4_defs.specs.Module.{WasmModule}
use Rattle.w4_defs.specs.Lookup.{signature_of, global_types, tables_of, memories_of, function_indices}
use Rattle.w4_defs.specs.Floats.{is_float_result}
use Rattle.w4_defs.specs.OperandTypes.{StackType, stack_type_if, row_type, gives, unary_type}
use Rattle.w4_defs.specs.Typing.{Context, with_label, IsInt, AreInt, only_type, consumes, sets, branches}
use Rattle.w4_defs.specs.Typing.{calls, calls_indirectly}
use Rattle.w4_defs.specs.AbstractStack.{OperandType, agrees, agree, below, below_all, topmost, common_type}
use Rattle.wasm_valid.specs.AbstractStackLaw.{HasNoFloat, IsIntOperand, AreIntOperands}
use Rattle.wasm_valid.proofs.OperandTypeLaws.{some_and_then, some_if_true}

-- ---- lists of types

pub joined_int : (a b : List ValType) → AreInt a → AreInt b → AreInt (a ++ b)
joined_int [] b h g = g
joined_int (t ∷ a) b h g = (h.0, joined_int a b h.1 g)

pub left_int : (a b : List ValType) → AreInt (a ++ b) → AreInt a
left_int [] b h = tt
left_int (t ∷ a) b h = (h.0, left_int a b h.1)

pub right_int : (a b : List ValType) → AreInt (a ++ b) → AreInt b
right_int [] b h = h
right_int (t ∷ a) b h = right_int a b h.1

pub reversed_int : (ts : List ValType) → AreInt ts → AreInt (reverse ts)
reversed_int [] h = tt
reversed_int (t ∷ ts) h =
    subst AreInt (sym (reverse-append (t ∷ []) ts))
    (joined_int (reverse ts) (t ∷ []) (reversed_int ts h.1) (h.0, tt))

pub result_int : (r : Option ValType) → is_float_result r ≡ false → AreInt (result_types r)
result_int None h = tt
result_int (Some I32) h = (tt, tt)
result_int (Some I64) h = (tt, tt)
result_int (Some F32) h = absurd (cc h)
result_int (Some F64) h = absurd (cc h)

pub got_int : (ts : List ValType) (k : ℕ) → AreInt ts → IfSome (slice_get ts k) IsInt
got_int [] k h = tt
got_int (t ∷ ts) zero h = h.0
got_int (t ∷ ts) (suc k) h = got_int ts k h.1

-- ---- lists of operand types

pub joined_kinds : (a b : List OperandType) → AreIntOperands a → AreIntOperands b → AreIntOperands (a ++ b)
joined_kinds [] b h g = g
joined_kinds (k ∷ a) b h g = (h.0, joined_kinds a b h.1 g)

pub known_int : (ts : List ValType) → AreInt ts → AreIntOperands (map Some ts)
known_int [] h = tt
known_int (t ∷ ts) h = (h.0, known_int ts h.1)

pub below_int : (t : ValType) (unreachable : Bool) (ks rest : List OperandType) → AreIntOperands ks
    → below t unreachable ks ≡ Some rest → AreIntOperands rest
below_int t true [] rest i h = let e : [] ≡ rest = cc h in subst AreIntOperands e tt
below_int t false [] rest i h = absurd (cc h)
below_int t true (k ∷ ks) rest i h = subst AreIntOperands (some_if_true (agrees k t) ks rest h).1 i.1
below_int t false (k ∷ ks) rest i h = subst AreIntOperands (some_if_true (agrees k t) ks rest h).1 i.1

pub all_below_int : (us : List ValType) (unreachable : Bool) (ks rest : List OperandType) → AreIntOperands ks
    → below_all us unreachable ks ≡ Some rest → AreIntOperands rest
all_below_int [] unreachable ks rest i h = let e : ks ≡ rest = cc h in subst AreIntOperands e i
all_below_int (u ∷ us) unreachable ks rest i h =
    let p = some_and_then (below_all us unreachable) (below u unreachable ks) rest h in
    all_below_int us unreachable p.0 rest (below_int u unreachable ks p.0 i p.1) p.2

pub top_int : (unreachable : Bool) (ks : List OperandType) (top : OperandType × List OperandType)
    → AreIntOperands ks
    → topmost unreachable ks ≡ Some top → IsIntOperand top.0 × AreIntOperands top.1
top_int true [] top i h =
    let e : (None, []) ≡ top = cc h in subst (λ x. IsIntOperand x.0 × AreIntOperands x.1) e (tt, tt)
top_int false [] top i h = absurd (cc h)
top_int true (k ∷ ks) top i h =
    let e : (k, ks) ≡ top = cc h in subst (λ x. IsIntOperand x.0 × AreIntOperands x.1) e i
top_int false (k ∷ ks) top i h =
    let e : (k, ks) ≡ top = cc h in subst (λ x. IsIntOperand x.0 × AreIntOperands x.1) e i

pub common_int : (j k both : OperandType) → IsIntOperand j → IsIntOperand k → common_type j k ≡ Some both
    → IsIntOperand both
common_int None k both i l h = let e : k ≡ both = cc h in subst IsIntOperand e l
common_int (Some u) None both i l h = let e : Some u ≡ both = cc h in subst IsIntOperand e i
common_int (Some u) (Some v) both i l h =
    subst IsIntOperand (some_if_true (same_type u v) (Some u) both h).1 i

-- an int type for an operand type
pub some_type : (k : OperandType) → IsIntOperand k → (t : ValType) × IsInt t × (agrees k t ≡ true)
some_type None i = (I32, tt, refl)
some_type (Some I32) i = (I32, tt, refl)
some_type (Some I64) i = (I64, tt, refl)
some_type (Some F32) i = absurd i
some_type (Some F64) i = absurd i

-- some int types for which operand types stand
pub some_types : (ks : List OperandType) (unreachable : Bool) → AreIntOperands ks
    → (ts : List ValType) × AreInt ts × (agree ks unreachable ts ≡ true)
some_types [] unreachable i = ([], tt, refl)
some_types (k ∷ ks) unreachable i =
    let p = some_type k i.0 in
    let q = some_types ks unreachable i.1 in
    (p.0 ∷ q.0, (p.1, q.1), and_from (agrees k p.0) (agree ks unreachable q.0) p.2 q.2)

-- ---- the stack types of operations

abbrev pub IsIntStackType : Option StackType → Type 0
IsIntStackType None = Unit {0}
IsIntStackType (Some stack_type) = AreInt stack_type.0 × AreInt stack_type.1

int_if : (b : Bool) (taken given : List ValType) → AreInt taken → AreInt given
    → IsIntStackType (stack_type_if b taken given)
int_if true taken given h g = (h, g)
int_if false taken given h g = tt

is_int : (t : IntegerType) → IsInt (value_type_of t)
is_int integer.I32 = tt
is_int integer.I64 = tt

row_int : (has : Bool) (r : Row) → IsIntStackType (row_type has r)
row_int has (stack.Const t n) = (tt, (is_int t, tt))
row_int has (stack.Test t) = ((is_int t, tt), (tt, tt))
row_int has (stack.Compare t o) = ((is_int t, (is_int t, tt)), (tt, tt))
row_int has (stack.Unary t o) = ((is_int t, tt), (is_int t, tt))
row_int has (stack.Binary t o) = ((is_int t, (is_int t, tt)), (is_int t, tt))
row_int has stack.Wrap = ((tt, tt), (tt, tt))
row_int has (stack.Extend sign) = ((tt, tt), (tt, tt))
row_int has (stack.ExtendWithin t bits) = ((is_int t, tt), (is_int t, tt))
row_int has (stack.Load t bytes sign align offset) =
    int_if (has && nat_le (2 ^ align) bytes) (I32 ∷ []) (value_type_of t ∷ []) (tt, tt) (is_int t, tt)
row_int has (stack.Store t bytes align offset) =
    int_if (has && nat_le (2 ^ align) bytes) (I32 ∷ value_type_of t ∷ []) [] (tt, (is_int t, tt)) tt
row_int has stack.MemorySize = int_if has [] (I32 ∷ []) tt (tt, tt)
row_int has stack.MemoryGrow = int_if has (I32 ∷ []) (I32 ∷ []) (tt, tt) (tt, tt)
row_int has stack.MemoryCopy = int_if has (I32 ∷ I32 ∷ I32 ∷ []) [] (tt, (tt, (tt, tt))) tt
row_int has stack.MemoryFill = int_if has (I32 ∷ I32 ∷ I32 ∷ []) [] (tt, (tt, (tt, tt))) tt
row_int has stack.Float = tt

-- a stack type of what an index names
named_int : {A : Type 0} (P : A → Type 0) (f : A → Option StackType) (o : Option A) → IfSome o P
    → ((x : A) → P x → IsIntStackType (f x)) → IsIntStackType (option_and_then f o)
named_int P f None h g = tt
named_int P f (Some x) h g = g x h

branches_int : (label : List ValType) → AreInt label → IsIntStackType (branches label)
branches_int label h = (joined_int label (I32 ∷ []) h (tt, tt), h)

signature_int : (m : WasmModule) (o : Option ℕ) → All (λ s. AreInt s.params × AreInt s.results) m.types
    → IfSome (option_and_then (λ index. slice_get m.types index) o) (λ s. AreInt s.params × AreInt s.results)
signature_int m None h = tt
signature_int m (Some index) h = got_all (λ s. AreInt s.params × AreInt s.results) m.types index h

int_when : (b : Bool) (o : Option StackType) → IsIntStackType o → IsIntStackType (cond b o None)
int_when true o h = h
int_when false o h = tt

sets_int : (g : GlobalType) → IsInt g.value → IsIntStackType (sets g)
sets_int g h = int_if g.mutable (g.value ∷ []) [] (h, tt) tt

pub stack_type_int : (c : Context) (o : Op) → HasNoFloat c → IsIntStackType (only_type c o)
stack_type_int c op.Nop n = (tt, tt)
stack_type_int c (op.BrIf label) n =
    named_int AreInt branches (slice_get c.labels label) (got_all AreInt c.labels label n.labels) branches_int
stack_type_int c (op.Call func) n =
    named_int (λ s. AreInt s.params × AreInt s.results) calls (signature_of c.within func)
    (signature_int c.within (slice_get (function_indices c.within) func) n.signatures) (λ s h. h)
stack_type_int c (op.CallIndirect signature table) n =
    int_when (nat_lt table (length (tables_of c.within)))
    (option_and_then calls_indirectly (slice_get c.within.types signature))
    (named_int (λ s. AreInt s.params × AreInt s.results) calls_indirectly (slice_get c.within.types signature)
    (got_all (λ s. AreInt s.params × AreInt s.results) c.within.types signature n.signatures)
    (λ s h. (joined_int s.params (I32 ∷ []) h.0 (tt, tt), h.1)))
stack_type_int c (op.LocalGet index) n =
    named_int IsInt gives (slice_get c.locals index) (got_int c.locals index n.locals) (λ t h. (tt, (h, tt)))
stack_type_int c (op.LocalSet index) n =
    named_int IsInt consumes (slice_get c.locals index) (got_int c.locals index n.locals)
    (λ t h. ((h, tt), tt))
stack_type_int c (op.LocalTee index) n =
    named_int IsInt unary_type (slice_get c.locals index) (got_int c.locals index n.locals)
    (λ t h. ((h, tt), (h, tt)))
stack_type_int c (op.GlobalGet index) n =
    named_int (λ g. IsInt g.value) (λ g. gives g.value) (slice_get (global_types c.within) index)
    (got_all (λ g. IsInt g.value) (global_types c.within) index n.globals) (λ g h. (tt, (h, tt)))
stack_type_int c (op.GlobalSet index) n =
    named_int (λ g. IsInt g.value) sets (slice_get (global_types c.within) index)
    (got_all (λ g. IsInt g.value) (global_types c.within) index n.globals) sets_int
stack_type_int c (op.Basic i) n = row_int (nat_lt 0 (length (memories_of c.within))) (row i)
stack_type_int c o n = tt

pub label_has_no_float : (c : Context) (label : List ValType) → AreInt label → HasNoFloat c
    → HasNoFloat (with_label label c)
label_has_no_float c label h n = record {
  locals = n.locals;
  labels = All-cons AreInt label c.labels h n.labels;
  results = n.results;
  signatures = n.signatures;
  globals = n.globals;
}

pub stack_type_ints : (o : Option StackType) (stack_type : StackType) → IsIntStackType o → o ≡ Some stack_type
    → AreInt stack_type.0 × AreInt stack_type.1
stack_type_ints o stack_type h e = subst IsIntStackType e h
