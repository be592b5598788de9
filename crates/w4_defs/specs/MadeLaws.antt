-- What holds of generated carts and their inputs, for every number: the profile lets the module through and
-- it is valid; each draw has 16 bits; and there are 600 inputs.
use Rattle.std.specs.Prelude.{◌≡◌, ℕ, ◌^◌, ◌<◌, length, None}
use Rattle.w4_defs.specs.Profile.{profile_refusal}
use Rattle.w4_defs.specs.Validity.{IsValid}
use Rattle.w4_defs.specs.Generator.{draw, made_module, made_inputs, made_frames}

abbrev pub MadeModulesAreAccepted : Type 0
MadeModulesAreAccepted =
    (number : ℕ) → (profile_refusal (made_module number) ≡ None) × IsValid (made_module number)

abbrev pub DrawsAreSmall : Type 0
DrawsAreSmall = (number k : ℕ) → draw number k < 2 ^ 16

abbrev pub MadeInputsAreCounted : Type 0
MadeInputsAreCounted = (number : ℕ) → length (made_inputs number) ≡ made_frames
