-- How a file of lines is refused.
use Rattle.w4_commands.specs.declared.lines_refusal.LinesFile.{LinesFile}
use Rattle.w4_commands.specs.declared.lines_refusal.LinesFile.TheVariants as lines
use Rattle.w4_defs.specs.declared.status.ScriptKind.{ScriptKind}
use Rattle.w4_defs.specs.declared.status.ScriptKind.TheVariants as kind
use Rattle.w4_defs.specs.declared.status.Refusal.{Refusal}
use Rattle.w4_defs.specs.declared.status.Refusal.TheVariants as status
use Rattle.w4_script.specs.declared.refusal.ScriptRefusal.{ScriptRefusal}
use Rattle.w4_script.specs.declared.refusal.ScriptRefusal.TheVariants.{TooLong, BadLine, OutOfMemory}

-- how a file of lines is refused for what stands in it
abbrev pub lines_refused : LinesFile → ScriptKind → Refusal
lines_refused lines.Script = status.ScriptRefused
lines_refused lines.List = status.ListRefused

-- the refusal of a file that its reader refuses
abbrev pub lines_refusal : LinesFile → ScriptRefusal → Refusal
lines_refusal file TooLong = lines_refused file kind.TooLong
lines_refusal file (BadLine number) = lines_refused file (kind.BadLine number)
lines_refusal file OutOfMemory = status.OutOfMemory
