-- Worked cases of the integer operations, each by computation.
use Rattle.std.specs.Prelude.{◌≡◌, [], ◌∷◌, Ok, Err, true, false, refl}
use lib.Count.{count_trailing_zeros, ones, ones_in}
use Rattle.w4_defs.specs.declared.value.Val.TheVariants as val
use Rattle.w4_defs.specs.declared.value.Cause.TheVariants.{DivideByZero, Overflow}
use Rattle.w4_defs.specs.declared.integer.Unary.TheVariants.{Clz, Ctz, Popcnt}
use Rattle.w4_defs.specs.declared.integer.Binary.TheVariants.{Add, Sub, Mul, DivS, DivU, RemS, RemU, Shl, ShrS, ShrU, Rotl, Rotr}
use Rattle.w4_defs.specs.declared.integer.Compare.TheVariants.{LtS, LtU, GeS, GeU}
use Rattle.w4_defs.specs.declared.operation.Op.TheVariants as op
use Rattle.w4_defs.specs.declared.basic.Basic.TheVariants.{I32Extend8S, I32Extend16S, I64Extend32S, I64ExtendI32S, I64ExtendI32U, I32WrapI64}
use Rattle.w4_defs.specs.Integers.{unary, binary, compare, binary_digits}
use Rattle.w4_defs.specs.Effects.{effect, Does}

-- sums, differences and products wrap
abbrev pub SumsWrap : Type 0
SumsWrap =
    (binary 32 Add 0xffffffff 2 ≡ Ok 1)
    × (binary 32 Sub 1 2 ≡ Ok 0xffffffff)
    × (binary 64 Mul 0xffffffffffffffff 3 ≡ Ok 0xfffffffffffffffd)

pub sums_wrap : SumsWrap
sums_wrap = (refl, refl, refl)

-- signed quotients are cut toward zero, and remainders have the sign of the dividend: -7 by 2 and 7 by -2
abbrev pub QuotientsAreCut : Type 0
QuotientsAreCut =
    (binary 32 DivS 0xfffffff9 2 ≡ Ok 0xfffffffd)
    × (binary 32 RemS 0xfffffff9 2 ≡ Ok 0xffffffff)
    × (binary 32 RemS 7 0xfffffffe ≡ Ok 1)
    × (binary 32 DivU 0xfffffff9 2 ≡ Ok 0x7ffffffc)

pub quotients_are_cut : QuotientsAreCut
quotients_are_cut = (refl, refl, refl, refl)

-- a zero divisor has no quotient, nor has the least number by -1, whose remainder is 0
abbrev pub QuotientsAreMissing : Type 0
QuotientsAreMissing =
    (binary 32 DivS 5 0 ≡ Err DivideByZero)
    × (binary 64 RemU 5 0 ≡ Err DivideByZero)
    × (binary 32 DivS 0x80000000 0xffffffff ≡ Err Overflow)
    × (binary 64 DivS 0x8000000000000000 0xffffffffffffffff ≡ Err Overflow)
    × (binary 32 RemS 0x80000000 0xffffffff ≡ Ok 0)

pub quotients_are_missing : QuotientsAreMissing
quotients_are_missing = (refl, refl, refl, refl, refl)

-- counts are taken modulo the width; shr_s fills with the sign
abbrev pub ShiftsTakeTheWidth : Type 0
ShiftsTakeTheWidth =
    (binary 32 Shl 3 33 ≡ Ok 6)
    × (binary 32 ShrS 0xfffffff8 1 ≡ Ok 0xfffffffc)
    × (binary 32 ShrS 0xffffffff 31 ≡ Ok 0xffffffff)
    × (binary 32 ShrU 0xfffffff8 33 ≡ Ok 0x7ffffffc)
    × (binary 32 Rotl 0x80000001 1 ≡ Ok 3)
    × (binary 32 Rotr 3 1 ≡ Ok 0x80000001)
    × (binary 64 Rotl 5 64 ≡ Ok 5)
    × (binary 64 Rotr 5 64 ≡ Ok 5)

pub shifts_take_the_width : ShiftsTakeTheWidth
shifts_take_the_width = (refl, refl, refl, refl, refl, refl, refl, refl)

-- of 0 both counts of zeros are the width
abbrev pub DigitsAreCounted : Type 0
DigitsAreCounted =
    (unary 32 Clz 0 ≡ 32)
    × (unary 64 Clz 0 ≡ 64)
    × (unary 32 Ctz 0 ≡ 32)
    × (unary 32 Clz 1 ≡ 31)
    × (unary 32 Clz 0xffffffff ≡ 0)
    × (unary 64 Ctz 8 ≡ 3)
    × (unary 32 Popcnt 11 ≡ 3)

pub digits_are_counted : DigitsAreCounted
unfolding binary_digits count_trailing_zeros ones ones_in
digits_are_counted = (refl, refl, refl, refl, refl, refl, refl)

-- -1 is below 0 as signed, and above it as unsigned
abbrev pub SignsAreCompared : Type 0
SignsAreCompared =
    (compare 32 LtS 0xffffffff 0 ≡ true)
    × (compare 32 LtU 0xffffffff 0 ≡ false)
    × (compare 64 GeS 0xffffffffffffffff 0 ≡ false)
    × (compare 64 GeU 0xffffffffffffffff 0 ≡ true)

pub signs_are_compared : SignsAreCompared
signs_are_compared = (refl, refl, refl, refl)

-- the low 8, 16 or 32 digits as a signed number
abbrev pub SignsAreExtended : Type 0
SignsAreExtended =
    (effect (op.Basic I32Extend8S) (val.I32 0x80 ∷ []) [] [] ≡ Does (val.I32 0xffffff80 ∷ []) [] [])
    × (effect (op.Basic I32Extend16S) (val.I32 0x17fff ∷ []) [] [] ≡ Does (val.I32 0x7fff ∷ []) [] [])
    × (effect (op.Basic I64Extend32S) (val.I64 0x180000000 ∷ []) [] []
    ≡ Does (val.I64 0xffffffff80000000 ∷ []) [] [])
    × (effect (op.Basic I64ExtendI32S) (val.I32 0x80000000 ∷ []) [] []
    ≡ Does (val.I64 0xffffffff80000000 ∷ []) [] [])
    × (effect (op.Basic I64ExtendI32U) (val.I32 0x80000000 ∷ []) [] [] ≡ Does (val.I64 0x80000000 ∷ []) [] [])
    × (effect (op.Basic I32WrapI64) (val.I64 0x180000001 ∷ []) [] [] ≡ Does (val.I32 0x80000001 ∷ []) [] [])

pub signs_are_extended : SignsAreExtended
signs_are_extended = (refl, refl, refl, refl, refl, refl)

-- select takes the operand below where the condition isn't 0, else the one on top
abbrev pub SelectTakesByCondition : Type 0
SelectTakesByCondition =
    (effect op.Select (val.I32 9 ∷ (val.I64 2 ∷ (val.I64 1 ∷ []))) [] [] ≡ Does (val.I64 1 ∷ []) [] [])
    × (effect op.Select (val.I32 0 ∷ (val.I64 2 ∷ (val.I64 1 ∷ []))) [] [] ≡ Does (val.I64 2 ∷ []) [] [])

pub select_takes_by_condition : SelectTakesByCondition
select_takes_by_condition = (refl, refl)
