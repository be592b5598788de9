use Rattle.std.proofs.Common.{◌≡◌, length}
use Rattle.w4_defs.specs.Lines.{pieces}
use Rattle.w4_defs.specs.NameLists.{name_lines_from}
use Rattle.w4_script.proofs.name_lines.NameLinesIterator.next.Given as goal

abbrev pub invariant-loop-line : goal.invariant-loop-line
invariant-loop-line l =
    name_lines_from l.self.number (pieces 10 l.self.rest.now)
    ≡ name_lines_from l.fn.self.number (pieces 10 l.fn.self.rest.now)

abbrev pub decreases-loop-line : goal.decreases-loop-line
decreases-loop-line l = length l.self.rest.now
