use Rattle.w4_defs.proofs.ToneLaws.{slide_cut}
use Rattle.w4_defs.proofs.console_laws.frequency_cut.Goals as goal

pub returns : goal.returns
returns c = slide_cut c.args.first c.args.second c.args.at c.args.len c.requires
