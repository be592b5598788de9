use Rattle.w4_defs.proofs.LongNumbers.{too_long_number}
use Rattle.w4_defs.proofs.module_laws.unused_bits_are_zero.Goals as goal

pub returns : goal.returns
returns c = too_long_number
