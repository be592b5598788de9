-- A line as the definitions see it.
use Rattle.std.specs.Prelude.{map}
use Rattle.w4_defs.specs.Lines.{Line as DefinedLine}
use Rattle.w4_script.specs.declared.lines.Line.{Line}

abbrev pub line_view : Line → DefinedLine
line_view line = record { number = line.number; words = map (λ word. word.items) line.words.items }
