use Rattle.std.specs.Prelude.{refl}
use Rattle.std.proofs.Common.{inl, inr, arith}
use Rattle.w4_defs.proofs.EmptyCartSections.{long_size}
use Rattle.w4_defs.proofs.module_laws.numbers_are_spelled.Goals as goal

pub returns : goal.returns
returns c = (
  inr (omega arith, omega arith, 1, refl, inl (refl, inl (omega arith, omega arith, refl))),
  inl (refl, inr (omega arith, omega arith, omega arith, refl)),
  inl (refl, inr (omega arith, omega arith, omega arith, refl)),
  long_size,
)
