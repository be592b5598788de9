use Rattle.std.proofs.Common.{◌≡◌, map}
use Rattle.std.specs.List.{range_with_len}
use Rattle.w4_defs.specs.Generator.{draw, seed_after}
use Rattle.wasm_write.specs.Draws.{input_of_draw}
use Rattle.wasm_write.proofs.made.inputs.Given as goal

abbrev pub invariant-loop-k : goal.invariant-loop-k
invariant-loop-k l = record {
  drawn : l.draws.number ≡ seed_after l.initial.draws.number l._k;
  items : l.inputs.items ≡ map (λ k. input_of_draw (draw l.initial.draws.number k)) (range_with_len 0 l._k);
}
