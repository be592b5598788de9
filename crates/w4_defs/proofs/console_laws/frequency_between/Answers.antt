use Rattle.w4_defs.proofs.ToneLaws.{frequency_above, frequency_below}
use Rattle.w4_defs.proofs.console_laws.frequency_between.Goals as goal

pub returns-clause-low : goal.returns-clause-low
returns-clause-low c = frequency_above c.args.tone c.args.tick c.requires.within

pub returns-clause-high : goal.returns-clause-high
returns-clause-high c = frequency_below c.args.tone c.args.tick c.requires.within
