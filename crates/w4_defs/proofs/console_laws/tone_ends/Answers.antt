use Rattle.w4_defs.proofs.ToneLaws.{tone_sounds, tone_stops}
use Rattle.w4_defs.proofs.console_laws.tone_ends.Goals as goal

pub returns-clause-sounds : goal.returns-clause-sounds
returns-clause-sounds c = tone_sounds c.args.tone c.args.frames

pub returns-clause-ends : goal.returns-clause-ends
returns-clause-ends c = tone_stops c.args.tone c.args.frames
