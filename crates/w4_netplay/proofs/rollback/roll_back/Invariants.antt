use Rattle.std.proofs.Common.{◌≡◌}
use Rattle.w4_netplay.specs.Pads.{known_in, pads_before}
use Rattle.w4_netplay.proofs.RollbackLaws.{IsRolling}
use Rattle.w4_netplay.proofs.rollback.roll_back.Given as goal

-- the pads of the frame before, and an editor that is rolled back so far but for the run
abbrev pub invariant-loop-frame : goal.invariant-loop-frame
invariant-loop-frame l =
    (l.latest ≡ pads_before (known_in l.pads) l.frame)
    × IsRolling (known_in l.pads) l.frame l.fn.editor l.editor l.run.items
