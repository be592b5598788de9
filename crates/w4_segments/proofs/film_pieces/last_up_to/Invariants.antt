use Rattle.std.proofs.Common.{ℕ, ◌<◌, ◌≤◌, length}
use Rattle.w4_defs.specs.KeptList.{place_at}
use Rattle.w4_segments.proofs.film_pieces.last_up_to.Given as goal

abbrev pub invariant-loop-entry : goal.invariant-loop-entry
invariant-loop-entry l =
    (l.last < length l.editor.session.current.kept)
    × (place_at l.editor.session.current.kept l.last ≤ l.p)
    × ((i : ℕ) → l.last < i → i < l.entry → l.p < place_at l.editor.session.current.kept i)
