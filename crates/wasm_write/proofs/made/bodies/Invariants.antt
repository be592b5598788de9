use Rattle.std.proofs.Common.{◌≡◌, ◌*◌, map}
use Rattle.std.specs.List.{range_with_len}
use Rattle.w4_defs.specs.Generator.{seed_after, small_function}
use Rattle.wasm_write.proofs.made.bodies.Given as goal

abbrev pub invariant-loop-g : goal.invariant-loop-g
invariant-loop-g l = record {
  drawn : l.draws.number ≡ seed_after l.initial.draws.number (3 * l._g);
  items : l.bodies.items ≡ map (small_function l.initial.draws.number) (range_with_len 0 l._g);
}
