use Rattle.std.proofs.Common.{◌-◌, arith, sym, ◌∙◌}
use Rattle.w4_shapes.proofs.OvalLaws.{left_outside}
use Rattle.w4_shapes.proofs.ovals.first_outward.Goals as goal

pub returns-then-not-within-clause-outside : goal.returns-then-not-within-clause-outside
returns-then-not-within-clause-outside c = λ s low high.
    left_outside c.args.columns s (c.args.from - c.loop-step.step - 1) c.args.limit
    low (omega arith) (omega arith) (sym c.within.ensures ∙ c.if-not-within.true)
