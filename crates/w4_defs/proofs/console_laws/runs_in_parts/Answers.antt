use Rattle.w4_defs.proofs.RunLaws.{plays_in_parts, folds_in_parts, folds_state, runs_on, runs_between}
use Rattle.w4_defs.proofs.console_laws.runs_in_parts.Goals as goal

pub returns-clause-moments : goal.returns-clause-moments
returns-clause-moments c = plays_in_parts

pub returns-clause-states : goal.returns-clause-states
returns-clause-states c = folds_in_parts

pub returns-clause-state_decides : goal.returns-clause-state_decides
returns-clause-state_decides c = folds_state

pub returns-clause-next : goal.returns-clause-next
returns-clause-next c = runs_on

pub returns-clause-between : goal.returns-clause-between
returns-clause-between c = runs_between
