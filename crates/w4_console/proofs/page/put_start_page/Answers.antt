use Rattle.std.proofs.Common.{sym, ◌∙◌, arith}
use Rattle.w4_defs.specs.Reset.{start_page}
use Rattle.w4_console.proofs.PageLaws.{none_left, one_more_segment}
use Rattle.w4_console.proofs.page.put_start_page.Goals as goal

pub loop-i-preserved : goal.loop-i-preserved
loop-i-preserved c =
    rw (c.write.ensures)
    (sym
    (one_more_segment c.loop-i.page c.args.cart.now.segments c.loop-i.i c.segment-at.result.0
    c.segment-at.result.1.now c.segment-at.ensures.offset c.segment-at.ensures.bytes)
    ∙ c.loop-i.invariant)

pub returns : goal.returns
unfolding start_page
returns c =
    sym (none_left c.loop-i.page c.args.cart.now.segments c.loop-i.i (omega arith)) ∙ c.loop-i.invariant
