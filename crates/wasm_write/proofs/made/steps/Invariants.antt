use Rattle.std.specs.Prelude.{flat_map}
use Rattle.std.specs.List.{range_with_len}
use Rattle.w4_defs.specs.Generator.{step_of}
use Rattle.wasm_write.specs.Sequences.{AppendsOperations}
use Rattle.wasm_write.proofs.made.steps.Given as goal

abbrev pub invariant-loop-g : goal.invariant-loop-g
invariant-loop-g l =
    AppendsOperations l.initial.list.items (flat_map step_of (range_with_len 0 l.g)) l.list.items
