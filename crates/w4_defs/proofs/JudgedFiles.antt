-- Every list of bytes is judged: whoever shows that it is no cart and that no cause holds contradicts
-- himself.
use Rattle.std.specs.Prelude.{◌≡◌, refl, ℕ, zero, suc, ◌<◌, ◌≤◌, ◌⊎◌, List, length, Option, Some, None}
use Rattle.std.proofs.Common.{arith, subst, sym, inl, inr}
use Rattle.w4_defs.specs.declared.refusal.CartKind.{CartKind}
use Rattle.w4_defs.specs.declared.refusal.CartKind.TheVariants.{TooLarge, Malformed, Profile, Invalid}
use Rattle.w4_defs.specs.declared.refusal.ProfileRefusal.{ProfileRefusal}
use Rattle.w4_defs.specs.Module.{WasmModule}
use Rattle.w4_defs.specs.BinaryModule.{SpellsModule}
use Rattle.w4_defs.specs.Profile.{profile_refusal}
use Rattle.w4_defs.specs.Validity.{IsTypedAt, IsFirstUntyped}
use Rattle.w4_defs.specs.Cart.{IsCart, IsRefused, EveryFileIsJudged}

below_or_last : (n k : ℕ) → k < suc n → (k < n) ⊎ (k ≡ n)
below_or_last n k h = grind (arith, h)

small_or_large : (n bound : ℕ) → (n ≤ bound) ⊎ (bound < n)
small_or_large n bound = grind arith

-- where no function is the first without a type, each has one
typed_below : (m : WasmModule) → ((k : ℕ) → IsFirstUntyped m k → ⊥) → (n : ℕ) → n ≤ length m.bodies
    → (((k : ℕ) → k < n → IsTypedAt m k) → ⊥) → ⊥
typed_below m none zero h refute = refute (λ k below. absurd (omega (arith, below)))
typed_below m none (suc n) h refute =
    typed_below m none n (omega (arith, h)) (λ before.
    none n (
      omega (arith, h),
      before,
      λ typed. refute (λ k below. elim (below_or_last n k below) [
        | inl less ↦ before k less
        | inr same ↦ subst (IsTypedAt m) (sym same) typed
      ]),
    ))

valid_or_not : (bytes : List ℕ) → length bytes ≤ 65536 → (m : WasmModule) → SpellsModule bytes m
    → profile_refusal m ≡ None → (IsCart bytes m → ⊥) → ((kind : CartKind) → IsRefused bytes kind → ⊥) → ⊥
valid_or_not bytes small m spelled within no_cart no_cause =
    no_cause (Invalid None) (
      small,
      m,
      spelled,
      within,
      λ rules.
          typed_below m (λ k first. no_cause (Invalid (Some k)) (small, m, spelled, within, (rules, first)))
          (length m.bodies) (omega arith)
          (λ typed. no_cart (small, spelled, within, (rules, typed))),
    )

profile_or_not : (bytes : List ℕ) → length bytes ≤ 65536 → (m : WasmModule) → SpellsModule bytes m
    → (refusal : Option ProfileRefusal) → profile_refusal m ≡ refusal
    → (IsCart bytes m → ⊥) → ((kind : CartKind) → IsRefused bytes kind → ⊥) → ⊥
profile_or_not bytes small m spelled None within no_cart no_cause =
    valid_or_not bytes small m spelled within no_cart no_cause
profile_or_not bytes small m spelled (Some refusal) found no_cart no_cause =
    no_cause (Profile refusal) (small, m, spelled, found)

pub every_file_is_judged : EveryFileIsJudged
every_file_is_judged bytes no_cart no_cause = elim (small_or_large (length bytes) 65536) [
  | inl small ↦ no_cause Malformed (
    small,
    λ m spelled.
        profile_or_not bytes small m spelled (profile_refusal m) refl (no_cart m) no_cause,
  )
  | inr large ↦ no_cause TooLarge large
]
