use Rattle.std.proofs.Common.{ap}
use Rattle.wasm_valid.proofs.CountLaws.{kinds_more, fit_more}
use Rattle.wasm_valid.proofs.counts.imported.Goals as goal

pub loop-i-preserved : goal.loop-i-preserved
loop-i-preserved c = record {
  operands =
      kinds_more c.loop-i.counts _ c.args.imports.now c.loop-i.i c.index-imports-i.result _ c.loop-i-test.true
      c.index-imports-i.is (ap (λ i. i.kind) c.import.view_is) c.counted_with-counts.ensures
      c.loop-i.invariant.operands;
  fit = fit_more c.loop-i.counts _ c.loop-i.i _ c.counted_with-counts.ensures c.loop-i.invariant.fit;
}
