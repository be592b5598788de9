use Rattle.std.proofs.Common.{◌≡◌, ◌++◌, map}
use Rattle.w4_defs.specs.Lines.{lines_of}
use Rattle.w4_script.specs.Reading.{lines_left}
use Rattle.w4_script.specs.Lines.{line_view}
use Rattle.w4_script.proofs.lines.script_lines.Given as goal

abbrev pub invariant-loop-line : goal.invariant-loop-line
invariant-loop-line l = map line_view l.lines.items ++ lines_left l.line-iterator ≡ lines_of l.bytes
