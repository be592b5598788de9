-- Events that have happened, with the writes that failed among them or after them.
use Rattle.std.proofs.Common.{◌≡◌, ◌≤◌, ◌+◌, ℕ, List, [], ◌∷◌, ◌++◌, refl, sym, subst, arith}
use Rattle.w4_defs.specs.World.{Event, Took, InputEnded, InputLost, Wrote, Saved, NotSaved, World, Rises}
use Rattle.w4_defs.specs.World.{RisesBy, Appends, Does, OutFails, LeavesTaking, LeavesWriting, failed_saves}
use Rattle.w4_defs.specs.World.{wrote}
use Rattle.w4_house.proofs.WorldLaws.{does_then, does_wrote}
use Rattle.w4_answers.specs.LiveAnswer.{DoesCounted, FailsToWrite}

-- ---- how often a count rises

rises_not : (before now : ℕ) → before ≤ now → RisesBy 0 before now
rises_not before now later = omega arith

rises_both : (some more first second third : ℕ) → RisesBy some first second → RisesBy more second third
    → RisesBy (some + more) first third
rises_both some more first second third one next = omega arith

rises_once_more : (some more first second third : ℕ) → RisesBy some first second
    → RisesBy (more + 1) second third → RisesBy (some + more + 1) first third
rises_once_more some more first second third one next = omega arith

rises_still : (many first second third : ℕ) → RisesBy many first second → second ≤ third
    → RisesBy many first third
rises_still many first second third one later = omega arith

rises_at_all : (many before now : ℕ) → RisesBy (many + 1) before now → Rises before now
rises_at_all many before now rise = omega arith

-- ---- how many saves failed

pub failed-append : (some more : List Event)
    → failed_saves (some ++ more) ≡ failed_saves some + failed_saves more
failed-append [] more = omega arith
failed-append (Took line ∷ some) more = failed-append some more
failed-append (InputEnded ∷ some) more = failed-append some more
failed-append (InputLost ∷ some) more = failed-append some more
failed-append (Wrote byte ∷ some) more = failed-append some more
failed-append (Saved name bytes ∷ some) more = failed-append some more
failed-append (NotSaved name ∷ some) more = omega (arith, failed-append some more)

pub failed-wrote : (bytes : List ℕ) → failed_saves (wrote bytes) ≡ 0
failed-wrote [] = refl
failed-wrote (byte ∷ bytes) = failed-wrote bytes

-- ---- what one call does

pub counted_nothing : (old new : World) → old.write_faults ≤ new.write_faults → Does old new []
    → DoesCounted old new []
counted_nothing old new later does = (does, rises_not old.write_faults new.write_faults later)

pub counted_wrote : (old new : World) (bytes : List ℕ) → Appends old.events new.events (wrote bytes)
    → LeavesWriting old new → DoesCounted old new (wrote bytes)
counted_wrote old new bytes h rest = (
  does_wrote old new bytes h rest.files,
  subst (λ n. RisesBy n old.write_faults new.write_faults) (sym (failed-wrote bytes))
      (rises_not old.write_faults new.write_faults rest.later),
)

pub fails_wrote : (old new : World) (bytes : List ℕ) → Rises old.write_faults new.write_faults
    → Appends old.events new.events (wrote bytes) → LeavesWriting old new → FailsToWrite old new (wrote bytes)
fails_wrote old new bytes rise h rest = (
  does_wrote old new bytes h rest.files,
  subst (λ n. RisesBy (n + 1) old.write_faults new.write_faults) (sym (failed-wrote bytes)) rise,
)

pub counted_took : (old new : World) (line : List ℕ) → LeavesTaking old new → Does old new (Took line ∷ [])
    → DoesCounted old new (Took line ∷ [])
counted_took old new line leaves does =
    (does, rises_not old.write_faults new.write_faults (omega (arith, leaves.writes)))

pub counted_saved : (old new : World) (name bytes : List ℕ) → old.write_faults ≤ new.write_faults
    → Does old new (Saved name bytes ∷ []) → DoesCounted old new (Saved name bytes ∷ [])
counted_saved old new name bytes later does = (does, rises_not old.write_faults new.write_faults later)

-- ---- one call after another

pub counted_then : (first second third : World) (some more : List Event) → DoesCounted first second some
    → DoesCounted second third more → DoesCounted first third (some ++ more)
counted_then first second third some more one next = (
  does_then first second third some more one.0 next.0,
  subst (λ n. RisesBy n first.write_faults third.write_faults) (sym (failed-append some more))
      (rises_both (failed_saves some) (failed_saves more) first.write_faults second.write_faults
      third.write_faults one.1 next.1),
)

pub fails_after : (first second third : World) (some more : List Event) → DoesCounted first second some
    → FailsToWrite second third more → FailsToWrite first third (some ++ more)
fails_after first second third some more one next = (
  does_then first second third some more one.0 next.0,
  subst (λ n. RisesBy (n + 1) first.write_faults third.write_faults) (sym (failed-append some more))
      (rises_once_more (failed_saves some) (failed_saves more) first.write_faults second.write_faults
      third.write_faults one.1 next.1),
)

-- ---- a write failed, and then a file was saved or not

pub out_rises : (old new : World) (done : List Event) → OutFails old new done
    → Rises old.write_faults new.write_faults
out_rises old new done fails = rises_at_all (failed_saves done) old.write_faults new.write_faults fails

pub out_fails_saved : (old mid new : World) (done : List Event) (name bytes : List ℕ) → OutFails old mid done
    → mid.write_faults ≤ new.write_faults → OutFails old new (done ++ Saved name bytes ∷ [])
out_fails_saved old mid new done name bytes fails later =
    let sum : failed_saves (done ++ Saved name bytes ∷ []) ≡ failed_saves done + 0 =
    failed-append done (Saved name bytes ∷ []) in
    let same : failed_saves (done ++ Saved name bytes ∷ []) ≡ failed_saves done = omega (arith, sum) in
    subst (λ n. RisesBy (n + 1) old.write_faults new.write_faults) (sym same)
    (rises_still (failed_saves done + 1) old.write_faults mid.write_faults new.write_faults fails later)

pub out_fails_not_saved : (old mid new : World) (done : List Event) (name : List ℕ) → OutFails old mid done
    → Rises mid.write_faults new.write_faults → OutFails old new (done ++ NotSaved name ∷ [])
out_fails_not_saved old mid new done name fails rise =
    let same : failed_saves (done ++ NotSaved name ∷ []) ≡ failed_saves done + 1 =
    failed-append done (NotSaved name ∷ []) in
    subst (λ n. RisesBy (n + 1) old.write_faults new.write_faults) (sym same)
    (rises_both (failed_saves done + 1) 1 old.write_faults mid.write_faults new.write_faults fails rise)
