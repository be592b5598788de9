use Rattle.wasm_write.proofs.ShortestLaws.{unsigned_are_shortest, signed_are_shortest}
use Rattle.wasm_write.proofs.laws.numbers_are_shortest.Goals as goal

pub returns : goal.returns
returns c = record { unsigned = unsigned_are_shortest; signed = signed_are_shortest }
