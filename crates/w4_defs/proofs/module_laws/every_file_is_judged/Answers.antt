use Rattle.w4_defs.proofs.JudgedFiles.{every_file_is_judged}
use Rattle.w4_defs.proofs.module_laws.every_file_is_judged.Goals as goal

pub returns : goal.returns
returns c = every_file_is_judged
