use Rattle.std.proofs.Common.{◌≡◌, ◌++◌, take}
use Rattle.std.specs.Prelude.{flat_map}
use Rattle.w4_defs.specs.FrameTexts.{spaced}
use Rattle.w4_answers.proofs.inputs_text.add_pads.Given as goal

abbrev pub invariant-loop-pad : goal.invariant-loop-pad
invariant-loop-pad l = l.text.items ≡ l.initial.text.items ++ flat_map spaced (take l.pad-index l.pads)
