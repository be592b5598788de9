use Rattle.std.proofs.Common.{◌≡◌, ◌++◌, take}
use Rattle.std.specs.List.{flat_map}
use Rattle.w4_defs.specs.FrameTexts.{tone_line}
use Rattle.w4_devices.proofs.texts.add_tones.Given as goal

abbrev pub invariant-loop-tone : goal.invariant-loop-tone
invariant-loop-tone l = l.text.items ≡ l.initial.text.items
    ++ flat_map tone_line (take l.tone-index l.tones)
