use Rattle.w4_defs.proofs.TypingInParts.{types_in_parts}
use Rattle.w4_defs.proofs.module_laws.lists_have_types_in_parts.Goals as goal

pub returns : goal.returns
returns c = types_in_parts
