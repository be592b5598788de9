use Rattle.w4_defs.proofs.ReadBack.{flattening_read_back, flattening_determines}
use Rattle.w4_defs.proofs.evaluation_laws.flattening_laws.Goals as goal

pub returns-clause-read_back : goal.returns-clause-read_back
returns-clause-read_back c = flattening_read_back

pub returns-clause-determines : goal.returns-clause-determines
returns-clause-determines c = flattening_determines
