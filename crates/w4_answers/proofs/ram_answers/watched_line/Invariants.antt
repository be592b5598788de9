use Rattle.std.proofs.Common.{◌≡◌, ◌++◌, take}
use Rattle.std.specs.Prelude.{flat_map}
use Rattle.w4_defs.specs.FrameTexts.{spaced}
use Rattle.w4_answers.proofs.ram_answers.watched_line.Given as goal

abbrev pub invariant-loop-value : goal.invariant-loop-value
invariant-loop-value l = l.line.items ≡ l.initial.line.items ++ flat_map spaced (take l.value-index l.values)
