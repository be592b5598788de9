use Rattle.w4_defs.specs.NetLog.{net-order-cases, bad-net-order-cases}
use Rattle.w4_defs.specs.RamQuery.{ask-cases, bad-ask-cases, keeping-cases}
use Rattle.w4_defs.proofs.tool_laws.order_cases.Goals as goal

pub returns-clause-log : goal.returns-clause-log
returns-clause-log c = net-order-cases

pub returns-clause-bad_log : goal.returns-clause-bad_log
returns-clause-bad_log c = bad-net-order-cases

pub returns-clause-query : goal.returns-clause-query
returns-clause-query c = ask-cases

pub returns-clause-bad_query : goal.returns-clause-bad_query
returns-clause-bad_query c = bad-ask-cases

pub returns-clause-keeping : goal.returns-clause-keeping
returns-clause-keeping c = keeping-cases
