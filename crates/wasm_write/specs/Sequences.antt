-- Lists of instructions that hold no list, as the operations that they are.
use Rattle.std.specs.Prelude.{◌≡◌, List, [], ◌∷◌, ◌++◌}
use Rattle.w4_defs.specs.declared.operation.Op.{Op}
use Rattle.w4_defs.specs.declared.instruction.Instr.{Instr}
use Rattle.w4_defs.specs.Tree.{Expr, sequence}
use Rattle.w4_defs.specs.View.{before}

-- a list of instructions before the rest of an expression
abbrev pub expression_onto : List Instr → Expr → Expr
expression_onto [] rest = rest
expression_onto (i ∷ is) rest = before i (expression_onto is rest)

-- the instruction is this operation
abbrev pub IsOperation : Instr → Op → Type 0
IsOperation i op = (rest : List Op) → before i (sequence rest) ≡ sequence (op ∷ rest)

-- the new list is the old one and these operations after it
abbrev pub AppendsOperations : List Instr → List Op → List Instr → Type 0
AppendsOperations old ops new =
    (rest : List Op) → expression_onto new (sequence rest) ≡ expression_onto old (sequence (ops ++ rest))
