-- Where the operations trap, by cases on the operation and on the tests of its operands.
use Rattle.std.proofs.Common.{◌≡◌, ◌↔◌, ◌⊎◌, ℕ, ◌-◌, ◌^◌, ◌<◌, Err, arith}
use Rattle.std.proofs.lemmas.Nat.{pow_below}
use Rattle.w4_defs.specs.declared.value.Cause.{Cause}
use Rattle.w4_defs.specs.declared.value.Cause.TheVariants.{DivideByZero, Overflow}
use Rattle.w4_defs.specs.declared.integer.Binary.{Binary}
use Rattle.w4_defs.specs.declared.integer.Binary.TheVariants.{Add, Sub, Mul, DivS, DivU, RemS, RemU, And, Or}
use Rattle.w4_defs.specs.declared.integer.Binary.TheVariants.{Xor, Shl, ShrS, ShrU, Rotl, Rotr}
use Rattle.w4_defs.specs.Integers.{binary}
use Rattle.wasm_num.specs.Traps.{IsDivision, TrapsExactly}

by_zero : (w : ℕ) (op : Binary) (a b : ℕ) → (binary w op a b ≡ Err DivideByZero) ↔ (IsDivision op × (b ≡ 0))
by_zero w Add a b = grind arith
by_zero w Sub a b = grind arith
by_zero w Mul a b = grind arith
by_zero w DivS a b = grind arith
by_zero w DivU a b = grind arith
by_zero w RemS a b = grind arith
by_zero w RemU a b = grind arith
by_zero w And a b = grind arith
by_zero w Or a b = grind arith
by_zero w Xor a b = grind arith
by_zero w Shl a b = grind arith
by_zero w ShrS a b = grind arith
by_zero w ShrU a b = grind arith
by_zero w Rotl a b = grind arith
by_zero w Rotr a b = grind arith

overflow : (w : ℕ) → 0 < w → (op : Binary) (a b : ℕ) → (binary w op a b ≡ Err Overflow)
    ↔ ((op ≡ DivS) × (a ≡ 2 ^ (w - 1)) × (b ≡ 2 ^ w - 1))
overflow w some Add a b = grind arith
overflow w some Sub a b = grind arith
overflow w some Mul a b = grind arith
overflow w some DivS a b =
    let minus_one : 0 < 2 ^ w - 1 = omega (arith, pow_below 0 w some) in
    grind arith
overflow w some DivU a b = grind arith
overflow w some RemS a b = grind arith
overflow w some RemU a b = grind arith
overflow w some And a b = grind arith
overflow w some Or a b = grind arith
overflow w some Xor a b = grind arith
overflow w some Shl a b = grind arith
overflow w some ShrS a b = grind arith
overflow w some ShrU a b = grind arith
overflow w some Rotl a b = grind arith
overflow w some Rotr a b = grind arith

no_other : (w : ℕ) (op : Binary) (a b : ℕ) (cause : Cause) → binary w op a b ≡ Err cause
    → (cause ≡ DivideByZero) ⊎ (cause ≡ Overflow)
no_other w Add a b cause h = grind (arith, h)
no_other w Sub a b cause h = grind (arith, h)
no_other w Mul a b cause h = grind (arith, h)
no_other w DivS a b cause h = grind (arith, h)
no_other w DivU a b cause h = grind (arith, h)
no_other w RemS a b cause h = grind (arith, h)
no_other w RemU a b cause h = grind (arith, h)
no_other w And a b cause h = grind (arith, h)
no_other w Or a b cause h = grind (arith, h)
no_other w Xor a b cause h = grind (arith, h)
no_other w Shl a b cause h = grind (arith, h)
no_other w ShrS a b cause h = grind (arith, h)
no_other w ShrU a b cause h = grind (arith, h)
no_other w Rotl a b cause h = grind (arith, h)
no_other w Rotr a b cause h = grind (arith, h)

pub traps_exactly : (w : ℕ) → 0 < w → TrapsExactly w
traps_exactly w some = record { by_zero = by_zero w; overflow = overflow w some; no_other = no_other w }
