use Rattle.std.proofs.Common.{◌≡◌, ◌++◌, take}
use Rattle.std.specs.List.{flat_map}
use Rattle.w4_defs.specs.FrameTexts.{spaced}
use Rattle.w4_devices.proofs.text_parts.add_numbered.Given as goal

abbrev pub invariant-loop-number : goal.invariant-loop-number
invariant-loop-number l = l.text.items ≡ l.initial.text.items
    ++ flat_map spaced (take l.number-index l.numbers)
