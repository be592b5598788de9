use Rattle.w4_defs.proofs.RefusalOrder.{refusals_in_order}
use Rattle.w4_defs.proofs.output_laws.refusals_in_order.Goals as goal

pub returns : goal.returns
returns c = refusals_in_order
