-- The lines that are still to be read of a text, and a line as the definitions see it.
use Rattle.std.specs.Prelude.{List}
use Rattle.w4_defs.specs.Lines.{Line, lines_from, pieces, Line as DefinedLine}
use Rattle.w4_script.specs.declared.reading.Lines.{Lines}
use Rattle.w4_script.specs.declared.reading.WrittenLine.{WrittenLine}
use Rattle.w4_script.specs.Words.{words_left}

-- the lines that aren't skipped
abbrev pub lines_left : Lines → List Line
lines_left lines = lines_from lines.number (pieces 10 lines.rest.now)

abbrev pub written_view : WrittenLine → DefinedLine
written_view line = record { number = line.number; words = words_left line.words }
