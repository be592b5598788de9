use Rattle.w4_defs.proofs.Ranges.{unary_in_range, binary_in_range, extended_in_range}
use Rattle.w4_defs.proofs.evaluation_laws.integer_ranges.Goals as goal

pub returns-clause-one_operand : goal.returns-clause-one_operand
returns-clause-one_operand c = unary_in_range

pub returns-clause-two_operands : goal.returns-clause-two_operands
returns-clause-two_operands c = binary_in_range

pub returns-clause-extended : goal.returns-clause-extended
returns-clause-extended c = extended_in_range
