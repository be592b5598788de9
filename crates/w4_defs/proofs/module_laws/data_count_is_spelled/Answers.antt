use Rattle.std.specs.Prelude.{refl}
use Rattle.w4_defs.proofs.EmptyCartCount.{counted_sections, counted_text, counted_spelled, counted}
use Rattle.w4_defs.proofs.module_laws.data_count_is_spelled.Goals as goal

pub returns : goal.returns
returns c = (counted_sections, counted_text, refl, counted_spelled, counted)
