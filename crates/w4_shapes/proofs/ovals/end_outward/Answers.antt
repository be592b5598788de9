use Rattle.std.proofs.Common.{arith, sym, ◌∙◌}
use Rattle.w4_shapes.proofs.OvalLaws.{right_outside}
use Rattle.w4_shapes.proofs.ovals.end_outward.Goals as goal

pub returns-then-not-within-clause-outside : goal.returns-then-not-within-clause-outside
returns-then-not-within-clause-outside c = λ s low high.
    right_outside c.args.columns c.loop-s.s s c.args.limit
    (omega arith) low high (sym c.within.ensures ∙ c.if-not-within.true)
