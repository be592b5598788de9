use Rattle.wasm_valid.proofs.CalledLaws.{own_bodies_are_typed, calls_are_counted}
use Rattle.wasm_valid.proofs.laws.called_functions_are_typed.Goals as goal

pub returns-clause-bodies : goal.returns-clause-bodies
returns-clause-bodies c = own_bodies_are_typed

pub returns-clause-calls : goal.returns-clause-calls
returns-clause-calls c = calls_are_counted
