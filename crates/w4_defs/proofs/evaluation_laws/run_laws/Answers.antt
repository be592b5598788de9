use Rattle.w4_defs.proofs.GlobalTypes.{globals_keep_types}
use Rattle.w4_defs.proofs.Faults.{faults_change_nothing, spent_imports_change_nothing}
use Rattle.w4_defs.proofs.RefusedCalls.{forbidden_call_leaves_store, refused_calls_leave_store}
use Rattle.w4_defs.proofs.Budgets.{eval_keeps}
use Rattle.w4_defs.proofs.Unfolding.{eval_unfolds}
use Rattle.w4_defs.proofs.EntryPoints.{run_is_resumed, large_entry_traps}
use Rattle.w4_defs.proofs.ResumedSteps.{unfolds}
use Rattle.w4_defs.proofs.evaluation_laws.run_laws.Goals as goal

pub returns-clause-budget : goal.returns-clause-budget
returns-clause-budget g c = eval_keeps

pub returns-clause-steps : goal.returns-clause-steps
returns-clause-steps g c = eval_unfolds

pub returns-clause-resumed : goal.returns-clause-resumed
returns-clause-resumed g c = run_is_resumed

pub returns-clause-large_entry : goal.returns-clause-large_entry
returns-clause-large_entry g c = large_entry_traps

pub returns-clause-resumed_steps : goal.returns-clause-resumed_steps
returns-clause-resumed_steps g c = unfolds

pub returns-clause-faults : goal.returns-clause-faults
returns-clause-faults g c = faults_change_nothing

pub returns-clause-imports : goal.returns-clause-imports
returns-clause-imports g c = spent_imports_change_nothing

pub returns-clause-globals : goal.returns-clause-globals
returns-clause-globals g c = globals_keep_types

pub returns-clause-forbidden : goal.returns-clause-forbidden
returns-clause-forbidden g c = forbidden_call_leaves_store

pub returns-clause-refused : goal.returns-clause-refused
returns-clause-refused g c = refused_calls_leave_store
