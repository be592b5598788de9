use Rattle.std.proofs.Common.{◌≡◌}
use Rattle.std.specs.List.{All}
use Rattle.std.specs.Prelude.{vec_len}
use Rattle.w4_segments.specs.Worker.{HasCartTypes}
use Rattle.w4_segments.proofs.worker.new_workers.Given as goal

abbrev pub invariant-loop : goal.invariant-loop
invariant-loop l = (vec_len l.worker_list ≡ l.counter) × All (HasCartTypes l.cart) l.worker_list.items
