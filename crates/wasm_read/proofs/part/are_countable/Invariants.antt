use Rattle.std.proofs.Common.{◌≡◌, ◌+◌, ◌^◌, ◌<◌, drop}
use Rattle.w4_defs.specs.Lookup.{local_count}
use Rattle.wasm_read.proofs.part.are_countable.Given as goal

abbrev pub invariant-loop-run : goal.invariant-loop-run
invariant-loop-run l = record {
  fits : l.sum < 2 ^ 32;
  all : l.sum + local_count (drop l.run-index l.runs) ≡ local_count l.runs;
}
