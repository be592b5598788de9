use Rattle.w4_defs.proofs.LineLaws.{first_piece, last_piece, lines_in_parts}
use Rattle.w4_defs.proofs.file_laws.lines_in_order.Goals as goal

pub returns-clause-first : goal.returns-clause-first
returns-clause-first c = first_piece

pub returns-clause-last : goal.returns-clause-last
returns-clause-last c = last_piece

pub returns-clause-parts : goal.returns-clause-parts
returns-clause-parts c = lines_in_parts
