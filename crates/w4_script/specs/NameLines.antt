-- The lines that are still to be read of a list, and a line as the definitions see it.
use Rattle.std.specs.Prelude.{List}
use Rattle.w4_defs.specs.Lines.{pieces}
use Rattle.w4_script.specs.declared.name_lines.NameLines.{NameLines}
use Rattle.w4_defs.specs.NameLists.{NameLine, name_lines_from}
use Rattle.w4_script.specs.declared.name_lines.NamedLine.{NamedLine}

-- the lines of a list that aren't empty
abbrev pub name_lines_left : NameLines → List NameLine
name_lines_left lines = name_lines_from lines.number (pieces 10 lines.rest.now)

abbrev pub named_view : NamedLine → NameLine
named_view line = record { number = line.number; name = line.name.now }
