use Rattle.w4_defs.specs.WorkedNumbers.{sums_wrap, quotients_are_cut, quotients_are_missing, shifts_take_the_width, digits_are_counted, signs_are_compared, signs_are_extended, select_takes_by_condition}
use Rattle.w4_defs.proofs.evaluation_laws.integer_cases.Goals as goal

pub returns-clause-wrap : goal.returns-clause-wrap
returns-clause-wrap c = sums_wrap

pub returns-clause-cut : goal.returns-clause-cut
returns-clause-cut c = quotients_are_cut

pub returns-clause-missing : goal.returns-clause-missing
returns-clause-missing c = quotients_are_missing

pub returns-clause-shifts : goal.returns-clause-shifts
returns-clause-shifts c = shifts_take_the_width

pub returns-clause-digits : goal.returns-clause-digits
returns-clause-digits c = digits_are_counted

pub returns-clause-signs : goal.returns-clause-signs
returns-clause-signs c = signs_are_compared

pub returns-clause-extensions : goal.returns-clause-extensions
returns-clause-extensions c = signs_are_extended

pub returns-clause-select : goal.returns-clause-select
returns-clause-select c = select_takes_by_condition
