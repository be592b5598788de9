use Rattle.w4_defs.specs.WorkedSessions.{entry-cases, drop-cases, change-cases, show-cases}
use Rattle.w4_defs.proofs.editing_laws.kept_list_cases.Goals as goal

pub returns-clause-edits : goal.returns-clause-edits
returns-clause-edits c = entry-cases

pub returns-clause-drops : goal.returns-clause-drops
returns-clause-drops c = drop-cases

pub returns-clause-changes : goal.returns-clause-changes
returns-clause-changes c = change-cases

pub returns-clause-shows : goal.returns-clause-shows
returns-clause-shows c = show-cases
