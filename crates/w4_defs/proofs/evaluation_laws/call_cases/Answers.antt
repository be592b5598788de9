use Rattle.w4_defs.specs.WorkedRuns.{depth_is_bounded, indirect_calls_are_judged, reserve_counts}
use Rattle.w4_defs.specs.WorkedCalls.{arguments_are_in_order, global_is_set, branch_keeps_value, import_is_called_indirectly, stack_rule_has_two_bounds}
use Rattle.w4_defs.proofs.evaluation_laws.call_cases.Goals as goal

pub returns-clause-depth : goal.returns-clause-depth
returns-clause-depth c = depth_is_bounded

pub returns-clause-indirect : goal.returns-clause-indirect
returns-clause-indirect c = indirect_calls_are_judged

pub returns-clause-reserve : goal.returns-clause-reserve
returns-clause-reserve c = reserve_counts

pub returns-clause-arguments : goal.returns-clause-arguments
returns-clause-arguments c = arguments_are_in_order

pub returns-clause-global : goal.returns-clause-global
returns-clause-global c = global_is_set

pub returns-clause-kept : goal.returns-clause-kept
returns-clause-kept c = branch_keeps_value

pub returns-clause-import : goal.returns-clause-import
returns-clause-import c = import_is_called_indirectly

pub returns-clause-bounds : goal.returns-clause-bounds
returns-clause-bounds c = stack_rule_has_two_bounds
