-- Where a run begins.
use Rattle.std.proofs.Common.{◌≡◌, ℕ, ◌<◌, Bool, false, cond, nat_le, refl, ap}
use Rattle.std.proofs.lemmas.Bool.{lt-leb}
use Rattle.w4_defs.specs.declared.value.Cause.TheVariants.{Stack}
use Rattle.w4_defs.specs.Outcome.{RunTrap}
use Rattle.w4_defs.specs.Program.{reserve_of}
use Rattle.w4_defs.specs.Evaluation.{ended, run_own}
use Rattle.w4_defs.specs.RunLaws.{LargeEntryTraps, RunIsResumed}

too_large : (n : ℕ) → 1048576 < n → nat_le n 1048576 ≡ false
too_large n h = lt-leb n 1048576 h

pub large_entry_traps : {H : Type 0} → LargeEntryTraps H
large_entry_traps prog f st b h = ap (λ (t : Bool). cond t (ended (run_own prog f st b)) (RunTrap Stack st))
    (too_large (reserve_of f) h)

pub run_is_resumed : {H : Type 0} → RunIsResumed H
run_is_resumed prog f st b = refl
