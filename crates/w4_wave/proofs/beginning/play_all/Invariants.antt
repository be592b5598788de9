use Rattle.std.proofs.Common.{◌≡◌, fold, take}
use Rattle.w4_defs.specs.Tones.{channels_after_tone}
use Rattle.w4_wave.proofs.beginning.play_all.Given as goal

abbrev pub invariant-loop-tone : goal.invariant-loop-tone
invariant-loop-tone l =
    l.channels ≡ fold channels_after_tone l.initial.channels (take l.tone-index l.tones)
