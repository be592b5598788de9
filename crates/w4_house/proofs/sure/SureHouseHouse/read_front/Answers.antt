use Rattle.std.proofs.Common.{refl, sym}
use Rattle.w4_house.proofs.sure.SureHouseHouse.read_front.Goals as goal

pub returns-in-None-clause-absent : goal.returns-in-None-clause-absent
returns-in-None-clause-absent c = λ _. (_, refl, sym c.in-None.ensures)
