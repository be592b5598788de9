-- Marks that are the flattening of an expression.
use Rattle.std.specs.Prelude.{◌≡◌, List}
use Rattle.w4_defs.specs.Tree.{Mark, Expr, flat}
use Rattle.w4_defs.specs.Flattening.{IsProper}

abbrev pub IsFlat : List Mark → Type 0
IsFlat ms = (e : Expr) × IsProper e × (ms ≡ flat e)
