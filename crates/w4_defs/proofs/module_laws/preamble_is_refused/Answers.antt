use Rattle.std.specs.Prelude.{refl, []}
use Rattle.std.proofs.Common.{arith}
use Rattle.w4_defs.proofs.EmptyCartCount.{no_module, nothing_collected}
use Rattle.w4_defs.proofs.module_laws.preamble_is_refused.Goals as goal

pub returns : goal.returns
returns c = (omega arith, no_module, ([], [], refl, refl, nothing_collected), refl)
