use Rattle.std.proofs.Common.{arith}
use Rattle.std.proofs.lemmas.Int.{ints}
use Rattle.w4_shapes.proofs.StepLaws.{lesser_most}
use Rattle.w4_shapes.proofs.steps.reach.Goals as goal

pub returns-then-less-far-clause-before : goal.returns-then-less-far-clause-before
returns-then-less-far-clause-before c = λ t before last.
    let least = lesser_most t c.args.less c.args.most last c.requires in
    omega (arith, ints, least)
