-- Where the integer operations trap (Core Specification, section 4.3.2): a division or a remainder by 0,
-- and the signed quotient of the least number by -1, which 2 ^ width - 1 stands for.
use Rattle.std.specs.Prelude.{◌≡◌, ◌↔◌, ◌⊎◌, ℕ, ◌-◌, ◌^◌, Err}
use Rattle.w4_defs.specs.declared.value.Cause.{Cause}
use Rattle.w4_defs.specs.declared.value.Cause.TheVariants.{DivideByZero, Overflow}
use Rattle.w4_defs.specs.declared.integer.Binary.{Binary}
use Rattle.w4_defs.specs.declared.integer.Binary.TheVariants.{DivS, DivU, RemS, RemU}
use Rattle.w4_defs.specs.Integers.{binary}

-- a quotient or a remainder
abbrev pub IsDivision : Binary → Type 0
IsDivision DivS = Unit {0}
IsDivision DivU = Unit {0}
IsDivision RemS = Unit {0}
IsDivision RemU = Unit {0}
IsDivision _ = ⊥

pub record TrapsExactly (width : ℕ) : Type 0 where
  pub by_zero : (op : Binary) (a b : ℕ) → (binary width op a b ≡ Err DivideByZero) ↔ (IsDivision op × (b ≡ 0))
  pub overflow : (op : Binary) (a b : ℕ)
      → (binary width op a b ≡ Err Overflow) ↔ ((op ≡ DivS) × (a ≡ 2 ^ (width - 1)) × (b ≡ 2 ^ width - 1))
  pub no_other : (op : Binary) (a b : ℕ) (cause : Cause)
      → binary width op a b ≡ Err cause → (cause ≡ DivideByZero) ⊎ (cause ≡ Overflow)
