use Rattle.std.proofs.Common.{◌≡◌, ◌≤◌, take}
use Rattle.std.specs.Prelude.{count_by}
use Rattle.std.specs.List.{range_with_len}
use Rattle.w4_commands.proofs.SummaryLaws.{is_lit}
use Rattle.w4_commands.proofs.summary.lit_pixels.Given as goal

abbrev pub invariant-loop-n : goal.invariant-loop-n
invariant-loop-n l = (l.lit ≡ count_by (is_lit l.page) (take l.n (range_with_len 0 25600))) × (l.lit ≤ l.n)
