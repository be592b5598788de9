use Rattle.w4_defs.specs.WorkedSessions.{deleted-case, input-cases, refusal-cases, keep-every-cases, limit-cases, history-case}
use Rattle.w4_defs.proofs.editing_laws.session_cases.Goals as goal

pub returns-clause-deleted : goal.returns-clause-deleted
returns-clause-deleted c = deleted-case

pub returns-clause-inputs : goal.returns-clause-inputs
returns-clause-inputs c = input-cases

pub returns-clause-refusals : goal.returns-clause-refusals
returns-clause-refusals c = refusal-cases

pub returns-clause-keep_every : goal.returns-clause-keep_every
returns-clause-keep_every c = keep-every-cases

pub returns-clause-history : goal.returns-clause-history
returns-clause-history c = history-case

pub returns-clause-limits : goal.returns-clause-limits
returns-clause-limits c = limit-cases
