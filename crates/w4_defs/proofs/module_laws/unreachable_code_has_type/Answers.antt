use Rattle.std.specs.Prelude.{refl, [], ◌∷◌}
use Rattle.w4_defs.specs.declared.value.ValType.TheVariants.{I32}
use Rattle.w4_defs.proofs.module_laws.unreachable_code_has_type.Goals as goal
use Rattle.w4_defs.specs.Module.{nothing_to_nothing}

-- the typing chooses two i32 behind `unreachable`
pub returns : goal.returns
returns c = (
  nothing_to_nothing,
  refl,
  (
    I32 ∷ I32 ∷ [],
    ([], [], I32 ∷ I32 ∷ [], refl, (tt, (tt, (tt, tt))), refl),
    (
      I32 ∷ [],
      ([], I32 ∷ I32 ∷ [], I32 ∷ [], refl, refl, refl),
      ([], ([], I32 ∷ [], [], refl, (I32, tt, refl, refl), refl), refl),
    ),
  ),
)
