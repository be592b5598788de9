use Rattle.std.proofs.Common.{arith}
use Rattle.std.proofs.lemmas.Int.{ints, clamps}
use Rattle.w4_shapes.proofs.ovals.middle.Goals as goal

pub returns-clause-halves : goal.returns-clause-halves
returns-clause-halves c = λ s low high. (
  λ before. omega (arith, ints, clamps, c.clamp.ensures.value),
  λ after. omega (arith, ints, clamps, c.clamp.ensures.value),
)
