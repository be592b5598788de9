use Rattle.w4_netplay.specs.Rollback.{rollback-frame-cases}
use Rattle.w4_netplay.proofs.laws.rollback_frame_cases.Goals as goal

pub returns : goal.returns
returns c = rollback-frame-cases
