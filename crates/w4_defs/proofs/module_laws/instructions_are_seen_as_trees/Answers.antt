use Rattle.w4_defs.specs.View.{view-case}
use Rattle.w4_defs.proofs.module_laws.instructions_are_seen_as_trees.Goals as goal

pub returns : goal.returns
returns c = view-case
