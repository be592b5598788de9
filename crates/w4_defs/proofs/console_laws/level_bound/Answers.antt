use Rattle.w4_defs.proofs.ToneLaws.{level_small}
use Rattle.w4_defs.proofs.console_laws.level_bound.Goals as goal

pub returns : goal.returns
returns c = level_small c.args.tone c.args.tick c.requires.peak c.requires.level c.requires.within
