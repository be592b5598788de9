use Rattle.w4_script.proofs.InputsTextRemadeLaws.{lines_are_carried_out, lines_remake_inputs}
use Rattle.w4_script.proofs.InputsTextRemadeLaws.{script_remakes_inputs}
use Rattle.w4_script.proofs.laws.inputs_are_remade.Goals as goal

pub returns-clause-script : goal.returns-clause-script
returns-clause-script c = script_remakes_inputs

pub returns-clause-session : goal.returns-clause-session
returns-clause-session c = lines_remake_inputs

pub returns-clause-answers : goal.returns-clause-answers
returns-clause-answers c = lines_are_carried_out
