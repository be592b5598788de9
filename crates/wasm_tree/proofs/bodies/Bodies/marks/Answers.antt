use Rattle.wasm_tree.proofs.LayoutLaws.{layout_shown}
use Rattle.wasm_tree.proofs.bodies.Bodies.marks.Goals as goal

pub returns-clause-flat_marks : goal.returns-clause-flat_marks
returns-clause-flat_marks c = (layout_shown _ _ _ c.self.invariant c.self.view_is).1

pub returns-clause-proper : goal.returns-clause-proper
returns-clause-proper c = (layout_shown _ _ _ c.self.invariant c.self.view_is).0
