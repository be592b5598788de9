-- The public instructions of `src/`, with the lists that they hold, as trees: each is the operation of
-- its name, and the default label of a br_table stands behind the others.
use Rattle.std.specs.Prelude.{◌≡◌, ℕ, List, [], ◌∷◌, ◌++◌, Option, None, Vec, refl}
use Rattle.std.specs.declared.alloc.Global.{Global}
use Rattle.w4_defs.specs.declared.value.ValType.{ValType}
use Rattle.w4_defs.specs.declared.operation.Op.TheVariants as op
use Rattle.w4_defs.specs.declared.instruction.Instr.{Instr, Held-Instr-If-2, None', Some', Row_of-Instr, end_of-Instr, more_of-Instr}
use Rattle.w4_defs.specs.declared.instruction.Instr as instr
use Rattle.w4_defs.specs.Tree.{Expr, mark, done, plain, block, loop, if_then, if_else}

unfoldable mutual
  -- the tree that begins with this instruction and goes on with that tree
  pub before : Instr → Expr → Expr
  before instr.Unreachable rest = plain (mark op.Unreachable) rest
  before instr.Nop rest = plain (mark op.Nop) rest
  before (instr.Block' result shape inner) rest = block result (tree_of inner) rest
  before (instr.Loop' result shape inner) rest = loop result (tree_of inner) rest
  before (instr.If' result shape taken other) rest = choice result (tree_of taken) other rest
  before (instr.Br label) rest = plain (mark (op.Br label)) rest
  before (instr.BrIf label) rest = plain (mark (op.BrIf label)) rest
  before (instr.BrTable labels last) rest = plain (op.BrTable, labels.items ++ last ∷ []) rest
  before instr.Return rest = plain (mark op.Return) rest
  before (instr.Call func) rest = plain (mark (op.Call func)) rest
  before (instr.CallIndirect signature table) rest = plain (mark (op.CallIndirect signature table)) rest
  before instr.Drop rest = plain (mark op.Drop) rest
  before instr.Select rest = plain (mark op.Select) rest
  before (instr.LocalGet index) rest = plain (mark (op.LocalGet index)) rest
  before (instr.LocalSet index) rest = plain (mark (op.LocalSet index)) rest
  before (instr.LocalTee index) rest = plain (mark (op.LocalTee index)) rest
  before (instr.GlobalGet index) rest = plain (mark (op.GlobalGet index)) rest
  before (instr.GlobalSet index) rest = plain (mark (op.GlobalSet index)) rest
  before (instr.Basic i) rest = plain (mark (op.Basic i)) rest

  -- an if, with or without a second list
  pub choice : Option ValType → Expr → Held-Instr-If-2 → Expr → Expr
  choice result taken None' rest = if_then result taken rest
  choice result taken (Some' shape other) rest = if_else result taken (tree_of other) rest

  pub tree_of : {m : _} → Row_of-Instr m → Expr
  tree_of end_of-Instr = done
  tree_of (more_of-Instr i others) = before i (tree_of others)

-- a list of instructions as a tree
abbrev pub expression_of : List Instr → Expr
expression_of [] = done
expression_of (i ∷ others) = before i (expression_of others)

-- a br_table before a nop: its default is the last label; and an if without an else has one list
abbrev pub ViewCase : Type 0
ViewCase =
    (labels : Vec ℕ Global) (taken rest : Expr)
    → (tree_of (more_of-Instr (instr.BrTable labels 7) (more_of-Instr instr.Nop end_of-Instr))
    ≡ plain (op.BrTable, labels.items ++ 7 ∷ []) (plain (mark op.Nop) done))
    × (choice None taken None' rest ≡ if_then None taken rest)

pub view-case : ViewCase
unfolding before choice tree_of
view-case labels taken rest = (refl, refl)
