use Rattle.std.proofs.Common.{inr, refl}
use Rattle.w4_commands.proofs.load.read_file.Goals as goal

pub returns-in-Err-Absent-clause-gives : goal.returns-in-Err-Absent-clause-gives
returns-in-Err-Absent-clause-gives g c =
    let lacks = c.in-Err-Absent.ensures.absent (rw c.in-Err-Absent.field-0-is refl) in
    inr (lacks.0, lacks.1, rw lacks.2 refl)
