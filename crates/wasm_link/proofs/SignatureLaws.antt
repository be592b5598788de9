-- Lists of i32 alone.
use Rattle.std.proofs.Common.{◌≡◌, ℕ, zero, suc, List, [], ◌∷◌, length, replicate, false, refl}
use Rattle.std.proofs.Common.{arith}
use Rattle.std.specs.Prelude.{not}
use Rattle.std.specs.List.{list_any}
use Rattle.w4_defs.specs.declared.value.ValType.{ValType}
use Rattle.w4_defs.specs.declared.value.ValType.TheVariants.{I32, I64, F32, F64}
use Rattle.w4_defs.specs.ValueTypes.{same_types}
use Rattle.wasm_link.specs.Judging.{is_other}

pub all_i32 : (ts : List ValType) (n : ℕ) → length ts ≡ n
    → not (list_any is_other ts) ≡ same_types ts (replicate n I32)
all_i32 [] zero e = refl
all_i32 [] (suc n) e = absurd (omega (arith, e))
all_i32 (t ∷ ts) zero e = absurd (omega (arith, e))
all_i32 (I32 ∷ ts) (suc n) e = all_i32 ts n (omega (arith, e))
all_i32 (I64 ∷ ts) (suc n) e = refl
all_i32 (F32 ∷ ts) (suc n) e = refl
all_i32 (F64 ∷ ts) (suc n) e = refl

pub another_length : (ts : List ValType) (n : ℕ) → (length ts ≡ n → ⊥)
    → same_types ts (replicate n I32) ≡ false
another_length [] zero h = absurd (h refl)
another_length [] (suc n) h = refl
another_length (t ∷ ts) zero h = refl
another_length (I32 ∷ ts) (suc n) h = another_length ts n (λ e. h (omega (arith, e)))
another_length (I64 ∷ ts) (suc n) h = refl
another_length (F32 ∷ ts) (suc n) h = refl
another_length (F64 ∷ ts) (suc n) h = refl
