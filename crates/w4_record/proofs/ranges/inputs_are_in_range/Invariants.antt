use Rattle.std.specs.List.{AllWithin}
use Rattle.w4_defs.specs.Recording.{IsInput}
use Rattle.w4_record.proofs.ranges.inputs_are_in_range.Given as goal

abbrev pub invariant-loop-input : goal.invariant-loop-input
invariant-loop-input l = AllWithin IsInput l.inputs 0 l.input-index
