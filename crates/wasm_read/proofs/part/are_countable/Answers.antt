use Rattle.std.proofs.Common.{arith}
use Rattle.wasm_read.proofs.LoopLaws.{all_counted}
use Rattle.wasm_read.proofs.part.are_countable.Goals as goal

pub returns : goal.returns
returns c = all_counted c.args.runs.now c.loop-run.run-index c.loop-run.sum c.loop-run.invariant.all
    (omega arith) c.loop-run.invariant.fits
