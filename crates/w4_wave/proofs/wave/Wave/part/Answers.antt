use Rattle.std.proofs.Common.{sym, ap, ◌∙◌}
use Rattle.std.specs.Option.{is_some}
use Rattle.w4_defs.specs.Sound.{heard_voice}
use Rattle.w4_wave.proofs.PartLaws.{mute_part, no_tone}
use Rattle.w4_wave.proofs.wave.Wave.part.Goals as goal

pub returns-then-is_none-clause-part : goal.returns-then-is_none-clause-part
returns-then-is_none-clause-part c =
    let part = c.mute_part.ensures in
    let mute = no_tone (heard_voice c.args.self.now c.args.channel)
    (ap is_some (sym c.heard_tone.ensures.tone) ∙ c.if-is_none.ensures) in
    mute_part c.args.self.now c.args.channel c.mute_part.result c.requires part.ranges mute part.left
    part.right
    part.phase part.register part.register_bound
