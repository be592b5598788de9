use Rattle.w4_defs.proofs.RollbackLaws.{prediction_is_latest, nothing_predicts_zero, same_packets_same_known, same_packets_same_inputs, inputs_grow}
use Rattle.w4_defs.proofs.tool_laws.rollback_laws.Goals as goal

pub returns-clause-latest : goal.returns-clause-latest
returns-clause-latest c = prediction_is_latest

pub returns-clause-nothing : goal.returns-clause-nothing
returns-clause-nothing c = nothing_predicts_zero

pub returns-clause-known : goal.returns-clause-known
returns-clause-known c = same_packets_same_known

pub returns-clause-inputs : goal.returns-clause-inputs
returns-clause-inputs c = same_packets_same_inputs

pub returns-clause-grow : goal.returns-clause-grow
returns-clause-grow c = inputs_grow
