use Rattle.w4_inspect.proofs.SearchLaws.{found_is_remaining, found_rises}
use Rattle.w4_inspect.proofs.laws.narrowing_laws.Goals as goal

pub returns-clause-left : goal.returns-clause-left
returns-clause-left c = found_is_remaining

pub returns-clause-rising : goal.returns-clause-rising
returns-clause-rising c = found_rises
