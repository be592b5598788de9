use Rattle.std.proofs.Common.{◌≡◌, ℕ, ◌+◌, ◌<◌, length, get_or}
use Rattle.std.specs.List.{All}
use Rattle.w4_segments.specs.declared.worker.Worker.{Worker}
use Rattle.w4_segments.specs.FilmPieces.{IsPiece}
use Rattle.w4_segments.specs.Worker.{HasCartTypes}
use Rattle.w4_segments.proofs.film_pieces.deal_pieces.Given as goal

abbrev pub invariant-loop-worker_index : goal.invariant-loop-worker_index
invariant-loop-worker_index l =
    (length {A = Worker} l.worker_list ≡ length {A = Worker} l.fn.worker_list)
    × All (HasCartTypes l.editor.cart) l.worker_list
    × ((k : ℕ) (d : Worker) → k < l.worker_index → IsPiece l.editor l.first l.end (l.next + k)
    (get_or l.worker_list k d))
