-- A run ends: each instruction takes a unit and opens at most one list, and each end takes one
-- away.
use Rattle.std.specs.Prelude.{◌+◌, ◌*◌, ◌<◌, ℕ, List, length}
use Rattle.wasm_laws.specs.declared.label.Label.{Label}
use Rattle.wasm_laws.specs.declared.flow.Flow.{Flow}
use Rattle.wasm_laws.specs.declared.flow.Flow.TheVariants as flow

-- where it goes on, twice the budget and the open lists are less than before
abbrev pub Progress : Flow → (rest : ℕ) → (labels labels' : List Label) → Type 0
Progress (flow.Go position left) rest labels labels' = 2 * left + length labels' < 2 * rest + length labels
Progress (flow.Done left) rest labels labels' = Unit {0}
Progress (flow.Trap cause) rest labels labels' = Unit {0}
Progress flow.Spent rest labels labels' = Unit {0}
