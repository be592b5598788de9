use Rattle.w4_defs.proofs.DecimalLaws.{decimal_is_read}
use Rattle.w4_defs.proofs.file_laws.numbers_are_read.Goals as goal

pub returns : goal.returns
returns c = decimal_is_read
