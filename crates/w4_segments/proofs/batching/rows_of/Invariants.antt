use Rattle.std.proofs.Common.{◌≡◌, ℕ, ◌+◌, ◌*◌, ◌-◌, ◌<◌, length, Some}
use Rattle.w4_defs.specs.declared.batch.BatchRow.{BatchRow}
use Rattle.std.specs.List.{slice_index_or}
use Rattle.w4_defs.specs.State.{HasGlobals}
use Rattle.w4_segments.specs.Batching.{item_row}
use Rattle.w4_segments.proofs.batching.rows_of.Given as goal

abbrev pub invariant-loop-at : goal.invariant-loop-at
invariant-loop-at g l =
    HasGlobals l.files.cart.now l.worker.console
    × (l.at ≡ l.first + length l.rows.items * l.stride)
    × ((j : ℕ) (d : BatchRow) → j < length l.rows.items
    → item_row l.files.cart.now l.files.font.now l.files.digest.now l.files.items.now (l.first + j * l.stride)
    ≡ Some (slice_index_or l.rows.items j d))

abbrev pub decreases-loop-at : goal.decreases-loop-at
decreases-loop-at g l = length l.files.items.now - l.at
