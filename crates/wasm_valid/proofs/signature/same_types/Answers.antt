use Rattle.wasm_valid.proofs.TypeLaws.{other_length}
use Rattle.wasm_valid.proofs.signature.same_types.Goals as goal

pub returns-then-first-second : goal.returns-then-first-second
returns-then-first-second c = other_length _ _ c.if-first-second.true
