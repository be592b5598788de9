use Rattle.std.proofs.Common.{◌≡◌, ◌++◌, drop}
use Rattle.w4_defs.specs.FrameTexts.{sound_lines}
use Rattle.w4_devices.proofs.texts.add_sounds.Given as goal

abbrev pub invariant-loop-channel : goal.invariant-loop-channel
invariant-loop-channel l =
    l.text.items ++ sound_lines l.channel (drop l.channel l.sounds) ≡ l.initial.text.items
    ++ sound_lines 0 l.sounds
