-- The tree of the lists inside an instruction, as that of the list of its items.
use Rattle.std.specs.Prelude.{◌≡◌, refl}
use Rattle.std.proofs.Common.{ap}
use Rattle.w4_defs.specs.declared.instruction.Instr.{Row_of-Instr, end_of-Instr, more_of-Instr, items-the_row-Instr}
use Rattle.w4_defs.specs.View.{before, tree_of, expression_of}

pub tree_of_items : {m : _} (row : Row_of-Instr m) → tree_of row ≡ expression_of (items-the_row-Instr m row)
unfolding tree_of
tree_of_items end_of-Instr = refl
tree_of_items (more_of-Instr i others) = ap (before i) (tree_of_items others)
