use Rattle.wasm_read.proofs.MalformedLaws.{malformed_cases}
use Rattle.wasm_read.proofs.laws.malformed_cases.Goals as goal

pub returns : goal.returns
returns c = malformed_cases
