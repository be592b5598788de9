use Rattle.w4_defs.specs.Script.{order-cases, bad-order-cases, script-cases}
use Rattle.w4_defs.proofs.ScriptLaws.{script_limit}
use Rattle.w4_defs.proofs.file_laws.script_cases.Goals as goal

pub returns-clause-good : goal.returns-clause-good
returns-clause-good c = order-cases

pub returns-clause-bad : goal.returns-clause-bad
returns-clause-bad c = bad-order-cases

pub returns-clause-scripts : goal.returns-clause-scripts
returns-clause-scripts c = script-cases

pub returns-clause-limit : goal.returns-clause-limit
returns-clause-limit c = script_limit
