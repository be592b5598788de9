use Rattle.w4_defs.proofs.PaintLaws.{paints-paint, paint_only, paint-paint, paint_ext}
use Rattle.w4_defs.proofs.drawing_laws.painting_laws.Goals as goal

pub returns-clause-is_painted : goal.returns-clause-is_painted
returns-clause-is_painted c = paints-paint

pub returns-clause-only_one : goal.returns-clause-only_one
returns-clause-only_one c = paint_only

pub returns-clause-twice : goal.returns-clause-twice
returns-clause-twice c = paint-paint

pub returns-clause-on_screen : goal.returns-clause-on_screen
returns-clause-on_screen c = paint_ext
