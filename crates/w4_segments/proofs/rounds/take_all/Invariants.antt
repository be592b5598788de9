use Rattle.w4_segments.proofs.RoundLaws.{Taking}
use Rattle.w4_segments.proofs.rounds.take_all.Given as goal

abbrev pub invariant-loop-worker_index : goal.invariant-loop-worker_index
invariant-loop-worker_index l = Taking l.fn.editor l.worker_list l.worker_index l.replaced l.editor
