use Rattle.std.proofs.Common.{◌≡◌, length}
use Rattle.w4_segments.specs.declared.worker.Worker.{Worker}
use Rattle.w4_segments.proofs.RoundLaws.{Dealing}
use Rattle.w4_segments.proofs.rounds.deal_segments.Given as goal

abbrev pub invariant-loop-worker_index : goal.invariant-loop-worker_index
invariant-loop-worker_index l =
    (length {A = Worker} l.worker_list ≡ length {A = Worker} l.fn.worker_list)
    × Dealing l.editor l.last l.worker_index l.next l.worker_list
