use Rattle.w4_defs.proofs.SearchLaws.{left_is_narrowed, left_rises}
use Rattle.w4_defs.proofs.tool_laws.search_laws.Goals as goal

pub returns-clause-left : goal.returns-clause-left
returns-clause-left c = left_is_narrowed

pub returns-clause-rising : goal.returns-clause-rising
returns-clause-rising c = left_rises
