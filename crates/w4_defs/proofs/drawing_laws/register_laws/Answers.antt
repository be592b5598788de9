use Rattle.w4_defs.proofs.RegisterLaws.{input_is_put, paint_leaves_registers}
use Rattle.w4_defs.proofs.drawing_laws.register_laws.Goals as goal

pub returns-clause-input : goal.returns-clause-input
returns-clause-input c = input_is_put

pub returns-clause-painted : goal.returns-clause-painted
returns-clause-painted c = paint_leaves_registers
