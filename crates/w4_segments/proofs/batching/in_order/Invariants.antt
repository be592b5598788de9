use Rattle.std.proofs.Common.{ℕ, Option}
use Rattle.w4_defs.specs.declared.batch.BatchRow.{BatchRow}
use Rattle.w4_segments.specs.Batching.{AreDealtOut, HasRows}
use Rattle.w4_segments.proofs.batching.in_order.Given as goal

abbrev pub invariant-loop-item : goal.invariant-loop-item
invariant-loop-item l =
    (wanted : ℕ → Option BatchRow) → AreDealtOut wanted l.count l.dealt → HasRows wanted l.item l.rows.items
