use Rattle.w4_defs.proofs.SameStateLaws.{same_state_decides}
use Rattle.w4_defs.proofs.editing_laws.states_are_compared.Goals as goal

pub returns : goal.returns
returns c = same_state_decides
