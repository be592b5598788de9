use Rattle.std.proofs.Common.{take}
use Rattle.wasm_valid.specs.Counting.{CountKinds, FitKinds}
use Rattle.wasm_valid.proofs.counts.imported.Given as goal

abbrev pub invariant-loop-i : goal.invariant-loop-i
invariant-loop-i l = record {
  operands : CountKinds l.counts (take l.i l.imports);
  fit : FitKinds l.counts l.i;
}
