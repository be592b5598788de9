use Rattle.w4_editor.proofs.BitLaws.{bit_of}
use Rattle.w4_commands.proofs.SummaryLaws.{lit_more, lit_all}
use Rattle.w4_commands.proofs.summary.lit_pixels.Goals as goal

pub loop-n-preserved : goal.loop-n-preserved
loop-n-preserved c =
    lit_more c.args.page.now c.loop-n.n c.loop-n.lit c.pixel.result c.from-lit.result c.loop-n-test.true
    c.loop-n.invariant.0 c.loop-n.invariant.1 c.pixel.ensures (bit_of _ c.from-lit.result c.from-lit.ensures)

pub returns : goal.returns
returns c =
    lit_all c.args.page.now c.loop-n.n c.loop-n.lit c.loop-n.auto.n-end c.loop-n-test.false
    c.loop-n.invariant.0
