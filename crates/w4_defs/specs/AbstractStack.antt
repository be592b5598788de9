-- The abstract stack after a list of instructions: what a pass that makes no choice knows of the operands
-- (as in the Core Specification's appendix on validation). It is none, or a list of operand types, which may
-- be marked unreachable. An operand type is a value type, or unknown, which agrees with each. An abstract
-- stack stands for each list of types that agrees with its operand types one by one; an unreachable one
-- also for those with any further types below.
use Rattle.std.specs.Prelude.{ℕ, Bool, true, false, ◌&&◌, if◌then◌else◌, List, [], ◌∷◌, ◌++◌, map, reverse, slice_get, Option, Some, None, option_map, option_and_then}
use Rattle.std.specs.List.{list_all}
use Rattle.w4_defs.specs.declared.value.ValType.{ValType}
use Rattle.w4_defs.specs.declared.value.ValType.TheVariants.{I32}
use Rattle.w4_defs.specs.declared.operation.Op.{Op}
use Rattle.w4_defs.specs.declared.operation.Op.TheVariants.{Unreachable, Br, BrTable, Return, Drop, Select}
use Rattle.w4_defs.specs.Tree.{Expr, done, plain, block, loop, if_then, if_else}
use Rattle.w4_defs.specs.ValueTypes.{same_type, same_types, result_types}
use Rattle.w4_defs.specs.OperandTypes.{StackType}
use Rattle.w4_defs.specs.Typing.{Context, with_label, only_type}

-- a value type, or None where it is unknown
abbrev pub OperandType : Type 0
OperandType = Option ValType

-- the operand types from the top, and whether any further ones may stand below
pub record AbstractStack : Type 0 where
  pub operands : List OperandType
  pub unreachable : Bool

abbrev pub empty : AbstractStack
empty = record { operands = []; unreachable = false }

-- any types at all
abbrev pub anything : AbstractStack
anything = record { operands = []; unreachable = true }

abbrev pub agrees : OperandType → ValType → Bool
agrees None t = true
agrees (Some k) t = same_type k t

-- the types from the top
abbrev pub agree : List OperandType → Bool → List ValType → Bool
agree [] unreachable [] = true
agree [] unreachable (t ∷ ts) = unreachable
agree (k ∷ ks) unreachable [] = false
agree (k ∷ ks) unreachable (t ∷ ts) = agrees k t && agree ks unreachable ts

abbrev pub stands : AbstractStack → List ValType → Bool
stands s ts = agree s.operands s.unreachable (reverse ts)

-- the abstract stack is there, and stands for these types
abbrev pub stands_in : Option AbstractStack → List ValType → Bool
stands_in None ts = false
stands_in (Some s) ts = stands s ts

-- the operand types below a type that is taken
abbrev pub below : ValType → Bool → List OperandType → Option (List OperandType)
below t true [] = Some []
below t false [] = None
below t unreachable (k ∷ ks) = if agrees k t then Some ks else None

-- the operand types below types that are taken, from the top
abbrev pub below_all : List ValType → Bool → List OperandType → Option (List OperandType)
below_all [] unreachable ks = Some ks
below_all (t ∷ ts) unreachable ks = option_and_then (below_all ts unreachable) (below t unreachable ks)

abbrev pub with_operands : AbstractStack → List OperandType → AbstractStack
with_operands s ks = record s { operands = ks }

abbrev pub taken : List ValType → AbstractStack → Option AbstractStack
taken ts s = option_map (with_operands s) (below_all (reverse ts) s.unreachable s.operands)

abbrev pub given : List ValType → AbstractStack → AbstractStack
given ts s = with_operands s (reverse (map Some ts) ++ s.operands)

abbrev pub passed : AbstractStack → StackType → Option AbstractStack
passed s stack_type = option_map (given stack_type.1) (taken stack_type.0 s)

-- the topmost operand type, and the operand types below it
abbrev pub topmost : Bool → List OperandType → Option (OperandType × List OperandType)
topmost true [] = Some (None, [])
topmost false [] = None
topmost unreachable (k ∷ ks) = Some (k, ks)

-- the operand type of what agrees with both
abbrev pub common_type : OperandType → OperandType → Option OperandType
common_type None k = Some k
common_type (Some t) None = Some (Some t)
common_type (Some t) (Some u) = if same_type t u then Some (Some t) else None

abbrev pub dropped : AbstractStack → Option AbstractStack
dropped s = option_map (λ top. with_operands s top.1) (topmost s.unreachable s.operands)

abbrev pub select_with : AbstractStack → OperandType → List OperandType → Option AbstractStack
select_with s k ks =
    option_and_then
    (λ top. option_map (λ kind. with_operands s (kind ∷ top.1)) (common_type k top.0))
    (topmost s.unreachable ks)

abbrev pub selected : AbstractStack → Option AbstractStack
selected s = option_and_then (λ top. select_with s top.0 top.1) (topmost s.unreachable s.operands)

-- after a branch to a label of this type, or nothing where there is no such label
abbrev pub after_branch : AbstractStack → Option (List ValType) → Option AbstractStack
after_branch s None = None
after_branch s (Some label) = option_map (λ _. anything) (taken label s)

abbrev pub is_label : List ValType → Option (List ValType) → Bool
is_label label None = false
is_label label (Some other) = same_types label other

-- the one type that all these labels have
abbrev pub common_label : Context → List ℕ → Option (List ValType)
common_label c [] = None
common_label c (l ∷ labels) =
    option_and_then
    (λ label. if list_all (λ other. is_label label (slice_get c.labels other)) labels then Some label
    else None)
    (slice_get c.labels l)

-- the abstract stack after an operation with its labels
abbrev pub step : Context → Op → List ℕ → AbstractStack → Option AbstractStack
step c Unreachable labels s = Some anything
step c (Br l) labels s = after_branch s (slice_get c.labels l)
step c BrTable labels s =
    option_and_then (λ below. after_branch below (common_label c labels)) (taken (I32 ∷ []) s)
step c Return labels s = after_branch s (Some c.results)
step c Drop labels s = dropped s
step c Select labels s = option_and_then selected (taken (I32 ∷ []) s)
step c op labels s = option_and_then (passed s) (only_type c op)

-- the abstract stack after a list, from the abstract stack before it
abbrev pub stack_after : Context → Expr → AbstractStack → Option AbstractStack
stack_after c done s = Some s
stack_after c (plain m rest) s = option_and_then (stack_after c rest) (step c m.0 m.1 s)
stack_after c (block r inner rest) s =
    if stands_in (stack_after (with_label (result_types r) c) inner empty) (result_types r)
    then stack_after c rest (given (result_types r) s) else None
stack_after c (loop r inner rest) s =
    if stands_in (stack_after (with_label [] c) inner empty) (result_types r)
    then stack_after c rest (given (result_types r) s) else None
stack_after c (if_then None first_list rest) s =
    if stands_in (stack_after (with_label [] c) first_list empty) []
    then option_and_then (stack_after c rest) (taken (I32 ∷ []) s) else None
stack_after c (if_then (Some t) first_list rest) s = None
stack_after c (if_else r first_list other rest) s =
    if stands_in (stack_after (with_label (result_types r) c) first_list empty) (result_types r)
    && stands_in (stack_after (with_label (result_types r) c) other empty) (result_types r)
    then option_and_then (λ below. stack_after c rest (given (result_types r) below)) (taken (I32 ∷ []) s)
    else None

-- the abstract stack of a list that begins with no types
abbrev pub abstract_stack : Context → Expr → Option AbstractStack
abstract_stack c e = stack_after c e empty
