use Rattle.std.proofs.Common.{None, ap, ◌∙◌, get_or}
use Rattle.w4_wave.proofs.BeginningLaws.{with_one_silenced, four_silenced}
use Rattle.w4_wave.proofs.beginning.silence_as_recorded.Goals as goal

pub returns : goal.returns
returns c =
    let sounds = c.args.sounds.now in
    c.silence_if_recorded-4.ensures.channels
    ∙ ap (with_one_silenced 3 (get_or sounds 3 None)) (c.silence_if_recorded-3.ensures.channels
    ∙ ap (with_one_silenced 2 (get_or sounds 2 None)) (c.silence_if_recorded-2.ensures.channels
    ∙ ap (with_one_silenced 1 (get_or sounds 1 None)) c.silence_if_recorded.ensures.channels))
    ∙ four_silenced c.args.channels.now sounds c.silence_if_recorded.ensures.four c.told-sounds
