use Rattle.w4_defs.proofs.CompleteLaws.{complete_is_done}
use Rattle.w4_defs.proofs.output_laws.complete_is_done.Goals as goal

pub returns : goal.returns
returns c = complete_is_done
