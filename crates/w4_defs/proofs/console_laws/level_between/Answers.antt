use Rattle.std.proofs.Common.{min, max, arith}
use Rattle.w4_defs.proofs.ToneLaws.{mix_above, mix_below}
use Rattle.w4_defs.proofs.console_laws.level_between.Goals as goal

pub returns-clause-low : goal.returns-clause-low
returns-clause-low c = mix_above (min c.args.from c.args.to) c.args.from c.args.to c.args.at c.args.len
    c.requires (omega arith) (omega arith)

pub returns-clause-high : goal.returns-clause-high
returns-clause-high c = mix_below (max c.args.from c.args.to) c.args.from c.args.to c.args.at c.args.len
    c.requires (omega arith) (omega arith)
