use Rattle.std.proofs.Common.{refl}
use Rattle.w4_defs.proofs.PlaceLaws.{places_decide}
use Rattle.w4_defs.specs.KeptList.{kept_entries}
use Rattle.w4_defs.proofs.editing_laws.places_decide.Goals as goal

pub returns : goal.returns
returns c = places_decide kept_entries
    (record { at = λ p x. refl; unlinked = λ x. refl; after_drop = λ d x. refl })
