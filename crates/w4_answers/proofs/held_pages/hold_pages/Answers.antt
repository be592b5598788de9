use Rattle.std.proofs.Common.{Some}
use Rattle.w4_answers.proofs.DeskSessionLaws.{only_shows}
use Rattle.w4_answers.proofs.RamAnswerLaws.{held_on}
use Rattle.w4_answers.proofs.held_pages.hold_pages.Goals as goal

pub returns-clause-shows : goal.returns-clause-shows
returns-clause-shows g c =
    only_shows c.args.counted.now.editor c.read.new.editor c.in_ok-pages.ensures.shown.recording

pub returns-clause-held : goal.returns-clause-held
returns-clause-held g c =
    held_on c.args.counted.now.editor c.read.new.editor (Some c.in_ok-pages.pages)
    (only_shows c.args.counted.now.editor c.read.new.editor c.in_ok-pages.ensures.shown.recording)
    c.in_ok-pages.ensures.pages
