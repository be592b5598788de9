use Rattle.std.proofs.Common.{◌≡◌, ◌≤◌, ◌<◌, ◌+◌, ◌-◌, ℕ, false}
use Rattle.w4_shapes.specs.OvalCells.{reaches}
use Rattle.w4_shapes.proofs.ovals.end_inward.Given as goal

abbrev pub invariant-loop-step : goal.invariant-loop-step
invariant-loop-step l =
    (s : ℕ) → l.from - l.step ≤ s → s < l.columns.right + 2 → reaches l.columns.cells l.limit s ≡ false
