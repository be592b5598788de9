use Rattle.std.proofs.Common.{◌≡◌, None}
use Rattle.w4_defs.specs.Live.{LiveSession, Opened, first_live_session}
use Rattle.w4_defs.specs.Meaning.{RunsHaveMeaning}
use Rattle.w4_answers.specs.LiveAnswer.{LeavesServing, Sits}
use Rattle.w4_commands.specs.Serve.{Serves}
use Rattle.w4_commands.proofs.serve.answer_lines.Given as goal

-- all lines that were taken so far are answered, and the editor and the search are the session's
abbrev pub invariant-loop : goal.invariant-loop
invariant-loop g l =
    ((o : Opened) → RunsHaveMeaning o.cart → o.out ≡ l.out
    → Sits o (first_live_session o) l.fn.desk.counted.editor None
    → (s : LiveSession) × Serves (g.H.House.world l.fn.house) (g.H.House.world l.house) o s
    × Sits o s l.desk.counted.editor l.search)
    × LeavesServing (g.H.House.world l.fn.house) (g.H.House.world l.house)
