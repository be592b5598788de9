use Rattle.std.proofs.Common.{◌+◌, ◌*◌, [], ◌∷◌, length, ap, sym, ◌∙◌}
use Rattle.std.proofs.lemmas.List.{length-append}
use Rattle.sha2.specs.Sha256.{sha256}
use Rattle.w4_defs.specs.Batch.{file_row}
use Rattle.w4_segments.specs.Batching.{item_row}
use Rattle.w4_segments.proofs.BatchingLaws.{item_bytes, next_at, one_more_row}
use Rattle.w4_segments.proofs.batching.rows_of.Goals as goal

pub loop-at-preserved : goal.loop-at-preserved
loop-at-preserved g c =
    let args = c.args in
    let files = args.files.now in
    let row = file_row sha256 files.cart.now files.font.now files.digest.now in
    let wanted = item_row files.cart.now files.font.now files.digest.now files.items.now in
    let now = c.loop-at.rows.items in
    let here = c.loop-at.invariant.1 in
    let bytes = item_bytes files.items.now c.loop-at.at c.index-items-at.result c.loop-at-test.true
    c.index-items-at.is in
    rw (c.in_ok-push.ensures.items) (
      c.row.ensures.types,
      next_at args.first args.stride c.loop-at.at (length now) here
          ∙ ap (λ n. args.first + n * args.stride) (sym (length-append now (c.in_ok-row.row ∷ []))),
      one_more_row wanted args.first args.stride c.loop-at.at now c.in_ok-row.row here c.loop-at.invariant.2
          (ap row (bytes ∙ sym c.as_slice-bytes.ensures.value) ∙ c.in_ok-row.ensures.row),
    )
