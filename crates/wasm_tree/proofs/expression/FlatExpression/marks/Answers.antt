use Rattle.wasm_tree.proofs.ExpressionLaws.{flat_shown}
use Rattle.wasm_tree.proofs.expression.FlatExpression.marks.Goals as goal

pub returns-clause-flat_marks : goal.returns-clause-flat_marks
returns-clause-flat_marks c = (flat_shown _ _ c.self.invariant c.self.view_is).1

pub returns-clause-proper : goal.returns-clause-proper
returns-clause-proper c = (flat_shown _ _ c.self.invariant c.self.view_is).0
