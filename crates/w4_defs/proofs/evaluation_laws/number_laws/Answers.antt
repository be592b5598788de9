use Rattle.w4_defs.proofs.Numbers.{length-put_number, get_or-put_number, number_at-put_number}
use Rattle.w4_defs.proofs.evaluation_laws.number_laws.Goals as goal

pub returns-clause-length : goal.returns-clause-length
returns-clause-length c = length-put_number

pub returns-clause-others : goal.returns-clause-others
returns-clause-others c = get_or-put_number

pub returns-clause-found : goal.returns-clause-found
returns-clause-found c = number_at-put_number
