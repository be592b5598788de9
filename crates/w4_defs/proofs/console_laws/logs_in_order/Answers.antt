use Rattle.w4_defs.proofs.LogLaws.{logs_in_order}
use Rattle.w4_defs.proofs.console_laws.logs_in_order.Goals as goal

pub returns-clause-tones : goal.returns-clause-tones
returns-clause-tones c = logs_in_order

pub returns-clause-lines : goal.returns-clause-lines
returns-clause-lines c = logs_in_order
