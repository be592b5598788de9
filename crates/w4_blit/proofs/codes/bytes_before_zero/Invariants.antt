use Rattle.std.proofs.Common.{◌≡◌, ◌+◌, ◌-◌}
use Rattle.std.specs.Prelude.{◌==◌, not}
use Rattle.std.specs.List.{prefix_len}
use Rattle.std.proofs.Common.{drop}
use Rattle.w4_blit.proofs.codes.bytes_before_zero.Given as goal

abbrev pub invariant-loop-at : goal.invariant-loop-at
invariant-loop-at l =
    prefix_len (λ b. not (b == 0)) (drop l.first l.page) ≡ (l.at - l.first) +
    prefix_len (λ b. not (b == 0)) (drop l.at l.page)
