use Rattle.std.proofs.Common.{◌≡◌, ℕ, ◌+◌, ◌<◌, ◌≤◌, true}
use Rattle.w4_defs.specs.KeptList.{linked_at}
use Rattle.w4_segments.proofs.rounds.first_unlinked.Given as goal

abbrev pub invariant-loop-entry : goal.invariant-loop-entry
invariant-loop-entry l =
    (l.from ≤ l.entry)
    × ((i : ℕ) → l.from ≤ i → i < l.entry → linked_at l.editor.session.current.kept (i + 1) ≡ true)
