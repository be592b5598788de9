use Rattle.w4_defs.proofs.CompleteLaws.{others_take_no_lines}
use Rattle.w4_defs.proofs.output_laws.others_take_no_lines.Goals as goal

pub returns : goal.returns
returns c = others_take_no_lines
