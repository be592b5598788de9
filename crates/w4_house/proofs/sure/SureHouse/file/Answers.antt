use Rattle.std.proofs.Common.{Some, ap}
use Rattle.w4_house.proofs.StoredLaws.{get-stored}
use Rattle.w4_house.proofs.sure.SureHouse.file.Goals as goal

pub returns-in-Some : goal.returns-in-Some
returns-in-Some c = rw (get-stored c.args.self.now.files c.args.name.now, ← c.in-Some.ensures.value)
    (ap Some c.as_slice.ensures.value)

pub returns-in-None : goal.returns-in-None
returns-in-None c = rw (get-stored c.args.self.now.files c.args.name.now, ← c.in-None.ensures.value)
