use Rattle.std.proofs.Common.{◌≡◌, ◌≤◌, ◌<◌, ℕ, false}
use Rattle.w4_shapes.specs.OvalCells.{reaches}
use Rattle.w4_shapes.proofs.ovals.first_inward.Given as goal

abbrev pub invariant-loop-s : goal.invariant-loop-s
invariant-loop-s l = (s : ℕ) → l.columns.left ≤ s → s < l.s → reaches l.columns.cells l.limit s ≡ false
