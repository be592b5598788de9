use Rattle.std.proofs.Common.{length, subst, sym}
use Rattle.w4_segments.specs.Batching.{item_row, AreDealtOut, AreOfWorkers}
use Rattle.w4_segments.proofs.BatchingLaws.{batch_rows}
use Rattle.w4_segments.proofs.batching.batch.Goals as goal

pub returns : goal.returns
returns g c =
    let args = c.args in
    let wanted = item_row args.cart.now args.font.now args.digest.now args.items.now in
    let count = length args.items.now in
    let dealt = c.in_ok-dealt.dealt.items in
    batch_rows args.cart.now args.font.now args.digest.now args.items.now c.in_order.result
    (c.in_order.ensures wanted
    (subst (AreDealtOut wanted count) (sym c.as_slice.ensures.value)
    (subst (λ n. AreOfWorkers wanted count n dealt) (sym c.in_ok-dealt.ensures.many)
    c.in_ok-dealt.ensures.rows)))
