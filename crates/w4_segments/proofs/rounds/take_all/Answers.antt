use Rattle.std.proofs.Common.{sym, ◌∙◌}
use Rattle.std.proofs.lemmas.List.{get_or_default}
use Rattle.w4_segments.proofs.RoundLaws.{taking_more}
use Rattle.w4_segments.proofs.rounds.take_all.Goals as goal

pub loop-worker_index-preserved : goal.loop-worker_index-preserved
loop-worker_index-preserved c =
    let worker_list = c.args.worker_list.now in
    let worker_index = c.loop-worker_index.worker_index in
    let w = c.index-worker_list-worker_index.result in
    let below = c.loop-worker_index-test.true in
    taking_more c.args.editor.now worker_list worker_index c.loop-worker_index.replaced
    c.loop-worker_index.editor c.loop-worker_index.invariant
    below w
    (λ d. get_or_default worker_list worker_index d w below ∙ sym c.index-worker_list-worker_index.is)
    c.requires.played.rising c.in_ok-replaced.replaced c.take_one.new.editor c.take_one.ensures.keeps
    c.in_ok-replaced.ensures.taken
