use Rattle.w4_defs.specs.Lines.{line-cases, decimal-cases}
use Rattle.w4_defs.proofs.file_laws.line_cases.Goals as goal

pub returns-clause-lines : goal.returns-clause-lines
returns-clause-lines c = line-cases

pub returns-clause-numbers : goal.returns-clause-numbers
returns-clause-numbers c = decimal-cases
