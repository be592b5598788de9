use Rattle.w4_snap.specs.Chunks.{chunk-cases}
use Rattle.w4_snap.proofs.laws.chunk_cases.Goals as goal

pub returns : goal.returns
returns c = chunk-cases
