use Rattle.w4_house.proofs.MemoryLaws.{unlisted}
use Rattle.w4_house.proofs.memory.MemoryHouseHouse.read_line.Goals as goal

pub returns-clause-fails : goal.returns-clause-fails
returns-clause-fails c =
    λ fails. absurd (unlisted _ _ (rw c.deref.ensures.value at c.is_failing.ensures.listed)
    c.if-is_failing.false fails)
