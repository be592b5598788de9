use Rattle.w4_commands.specs.Stage.{IsAtPlace}
use Rattle.w4_commands.proofs.stage.Stage.run_to.Given as goal

abbrev pub invariant-loop-passed : goal.invariant-loop-passed
invariant-loop-passed l = IsAtPlace l.scene l.inputs l.passed l.self
