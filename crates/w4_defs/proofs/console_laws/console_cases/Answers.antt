use Rattle.w4_defs.specs.Words.{word-cases}
use Rattle.w4_defs.specs.Logs.{dropped-case}
use Rattle.w4_defs.specs.Tones.{ten-frames, decay-case, note-case, silenced-case}
use Rattle.w4_defs.specs.Disk.{disk-cases}
use Rattle.w4_defs.specs.Traces.{trace-case, tracef-case, place-cases}
use Rattle.w4_defs.specs.FrameTexts.{text-cases}
use Rattle.w4_defs.specs.Reset.{first-registers}
use Rattle.w4_defs.specs.Board.{board-cases}
use Rattle.w4_defs.specs.FrameCases.{budget-cases, start-cases, page-cases, trace-line-cases, mouse-case, start-case}
use Rattle.w4_defs.proofs.console_laws.console_cases.Goals as goal

pub returns-clause-words : goal.returns-clause-words
returns-clause-words c = word-cases

pub returns-clause-logs : goal.returns-clause-logs
returns-clause-logs c = dropped-case

pub returns-clause-ten_frames : goal.returns-clause-ten_frames
returns-clause-ten_frames c = ten-frames

pub returns-clause-silenced : goal.returns-clause-silenced
returns-clause-silenced c = silenced-case

pub returns-clause-disk : goal.returns-clause-disk
returns-clause-disk c = disk-cases

pub returns-clause-trace : goal.returns-clause-trace
returns-clause-trace c = trace-case

pub returns-clause-tracef : goal.returns-clause-tracef
returns-clause-tracef c = tracef-case

pub returns-clause-places : goal.returns-clause-places
returns-clause-places c = place-cases

pub returns-clause-texts : goal.returns-clause-texts
returns-clause-texts c = text-cases

pub returns-clause-registers : goal.returns-clause-registers
returns-clause-registers c = first-registers

pub returns-clause-board : goal.returns-clause-board
returns-clause-board c = board-cases

pub returns-clause-budgets : goal.returns-clause-budgets
returns-clause-budgets c = budget-cases

pub returns-clause-entries : goal.returns-clause-entries
returns-clause-entries c = start-cases

pub returns-clause-pages : goal.returns-clause-pages
returns-clause-pages c = page-cases

pub returns-clause-lines : goal.returns-clause-lines
returns-clause-lines c = trace-line-cases

pub returns-clause-decay : goal.returns-clause-decay
returns-clause-decay c = decay-case

pub returns-clause-note : goal.returns-clause-note
returns-clause-note c = note-case

pub returns-clause-mouse : goal.returns-clause-mouse
returns-clause-mouse c = mouse-case

pub returns-clause-start : goal.returns-clause-start
returns-clause-start c = start-case
