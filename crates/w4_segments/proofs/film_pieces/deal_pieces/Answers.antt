use Rattle.std.proofs.Common.{◌+◌, ◌<◌, length, ◌∙◌, length-set, arith}
use Rattle.w4_segments.specs.FilmPieces.{IsPiece}
use Rattle.w4_segments.specs.Worker.{HasCartTypes}
use Rattle.w4_segments.proofs.WorkerLaws.{all_changed, up_to_here}
use Rattle.w4_segments.proofs.film_pieces.deal_pieces.Goals as goal

pub loop-worker_index-preserved : goal.loop-worker_index-preserved
loop-worker_index-preserved c =
    let e = c.args.editor.now in
    let worker_list = c.loop-worker_index.worker_list in
    let worker_index = c.loop-worker_index.worker_index in
    let w = c.deal_piece.new.worker in
    let many = c.loop-worker_index.invariant.0 in
    let test = c.loop-worker_index-test.true in
    let below : worker_index < length worker_list = omega (arith, many, test) in (
      length-set worker_list worker_index w ∙ many,
      all_changed worker_list worker_index w below (HasCartTypes e.cart) c.loop-worker_index.invariant.1
          c.in_ok-deal_piece.ensures.ready.types,
      up_to_here worker_list worker_index w below (λ k x. IsPiece e c.args.first c.args.end (c.args.next + k)
          x)
          c.loop-worker_index.invariant.2 c.in_ok-deal_piece.ensures,
    )
