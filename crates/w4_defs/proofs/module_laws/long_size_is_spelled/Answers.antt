use Rattle.std.specs.Prelude.{refl, [], ◌∷◌}
use Rattle.w4_defs.proofs.EmptyCartSections.{sections, from_types, spelled, collected, long_size}
use Rattle.w4_defs.proofs.module_laws.long_size_is_spelled.Goals as goal

pub returns : goal.returns
returns c = (
  sections,
  from_types (0x84 ∷ 0x80 ∷ 0x80 ∷ 0x80 ∷ 0x00 ∷ []),
  refl,
  spelled (0x84 ∷ 0x80 ∷ 0x80 ∷ 0x80 ∷ 0x00 ∷ []) long_size,
  collected,
)
