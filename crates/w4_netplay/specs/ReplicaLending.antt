-- The states that a replica lends out, and what it is once they are given back.
use Rattle.std.specs.Prelude.{◌≡◌, ◌≢◌, ℕ, Result, IfErr, OnErr, OnOk}
use Rattle.std.specs.Borrow.{Fml, MutBor}
use Rattle.std.specs.Io.BufRead.{Rests}
use Rattle.w4_netplay.specs.contracts.replica.Replica.{the_row}
use Rattle.w4_defs.specs.declared.net_refusal.NetRefusal.{NetRefusal}
use Rattle.w4_defs.specs.declared.net_refusal.NetRefusal.TheVariants.{OutOfMemory}
use Rattle.w4_netplay.specs.Replica.{Netplay, KeepsNetplay, ShowsPlace}

-- place P of the predicted recording is shown, and the frames that were run are those that had to be. A
-- refusal leaves what is known, and changes nothing unless it is memory's
abbrev pub LendsPredicted : {A : Type 0} → (p before after : ℕ)
    → MutBor Netplay → Result A NetRefusal → Fml
LendsPredicted p before after replica result = Rests the_row replica (λ now.
    OnOk result (ShowsPlace p before after replica.now now)
    × OnErr result (KeepsNetplay replica.now now)
    × IfErr result (λ refusal. refusal ≢ OutOfMemory → now ≡ replica.now))
