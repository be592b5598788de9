use Rattle.std.proofs.Common.{refl, ◌∙◌, length-set, arith}
use Rattle.w4_segments.proofs.RoundLaws.{dealing_none, dealing_more, dealing_done}
use Rattle.w4_segments.proofs.rounds.deal_segments.Goals as goal

pub loop-worker_index-init : goal.loop-worker_index-init
loop-worker_index-init c = (
  refl,
  dealing_none c.args.editor.now c.args.last c.args.worker_list.now
      c.requires.types,
)

pub loop-worker_index-preserved : goal.loop-worker_index-preserved
loop-worker_index-preserved c =
    let worker_list = c.loop-worker_index.worker_list in
    let worker_index = c.loop-worker_index.worker_index in
    let w = c.deal_segment-next.new.worker in
    let many = c.loop-worker_index.invariant.0 in
    let below = c.loop-worker_index-test.true in (
      length-set worker_list worker_index w ∙ many,
      dealing_more c.args.editor.now c.args.last worker_index c.loop-worker_index.next
          c.deal_segment-next.result worker_list w
          c.loop-worker_index.invariant.1
          (omega (arith, many, below))
          c.deal_segment-next.ensures,
    )

pub returns : goal.returns
returns c =
    let many = c.loop-worker_index.invariant.0 in
    let past = c.loop-worker_index-test.false in
    let within = c.loop-worker_index.auto.worker_index-end in
    dealing_done c.args.editor.now c.args.last c.loop-worker_index.worker_index c.loop-worker_index.next
    c.args.worker_list.now
    c.loop-worker_index.worker_list
    many
    (omega (arith, many, past, within)) c.loop-worker_index.invariant.1
