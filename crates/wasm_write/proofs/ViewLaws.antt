-- The trees of the instructions that hold lists.
use Rattle.std.proofs.Common.{◌≡◌, Option, Some, None, Vec, rules}
use Rattle.std.specs.declared.alloc.Global.{Global}
use Rattle.w4_defs.specs.declared.value.ValType.{ValType}
use Rattle.w4_defs.specs.declared.instruction.Instr.{Instr, Block, Loop, If, the_lemmas}
use Rattle.w4_defs.specs.Tree.{Expr, block, loop, if_then, if_else}
use Rattle.w4_defs.specs.View.{before, choice, expression_of}
use Rattle.w4_defs.proofs.ViewLaws.{tree_of_items}

pub block_before : (result : Option ValType) (inner : Vec Instr Global) (rest : Expr)
    → before (Block result inner) rest ≡ block result (expression_of inner.items) rest
unfolding before
block_before result inner rest = search (rules, the_lemmas, tree_of_items)

pub loop_before : (result : Option ValType) (inner : Vec Instr Global) (rest : Expr)
    → before (Loop result inner) rest ≡ loop result (expression_of inner.items) rest
unfolding before
loop_before result inner rest = search (rules, the_lemmas, tree_of_items)

pub if_then_before : (result : Option ValType) (taken : Vec Instr Global) (rest : Expr)
    → before (If result taken None) rest ≡ if_then result (expression_of taken.items) rest
unfolding before choice
if_then_before result taken rest = search (rules, the_lemmas, tree_of_items)

pub if_else_before : (result : Option ValType) (taken other : Vec Instr Global) (rest : Expr)
    → before (If result taken (Some other)) rest ≡ if_else result (expression_of taken.items)
    (expression_of other.items) rest
unfolding before choice
if_else_before result taken other rest = search (rules, the_lemmas, tree_of_items)
