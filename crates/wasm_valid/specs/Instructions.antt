-- Instructions among the marks of a flattening (Core Specification, section 5.4): all but `else` and `end`.
use Rattle.std.specs.Prelude.{◌≡◌, Bool, true, false}
use Rattle.std.specs.List.{count_by}
use Rattle.w4_defs.specs.declared.operation.Op.{Op}
use Rattle.w4_defs.specs.declared.operation.Op.TheVariants.{Else, End}
use Rattle.w4_defs.specs.Flattening.{IsProper}
use Rattle.w4_defs.specs.Program.{instructions}
use Rattle.w4_defs.specs.Tree.{Expr, flat}
use Rattle.wasm_tree.specs.Pool.{operations_of}

abbrev pub is_instruction : Op → Bool
is_instruction Else = false
is_instruction End = false
is_instruction op = true

-- they are as many as the instructions of the tree at every depth
abbrev pub InstructionsAreCounted : Type 0
InstructionsAreCounted =
    (e : Expr) → IsProper e → count_by is_instruction (operations_of (flat e)) ≡ instructions e
