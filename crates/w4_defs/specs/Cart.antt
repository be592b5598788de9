-- What a cart is, and why bytes aren't a cart (project rules): the causes in their order, of which the first
-- that holds is the answer.
use Rattle.std.specs.Prelude.{◌≡◌, ℕ, ◌<◌, ◌≤◌, List, length, Option, Some, None}
use Rattle.w4_defs.specs.declared.refusal.CartKind.{CartKind}
use Rattle.w4_defs.specs.declared.refusal.CartKind.TheVariants.{TooLarge, Malformed, Profile, Invalid}
use Rattle.w4_defs.specs.Module.{WasmModule}
use Rattle.w4_defs.specs.BinaryModule.{SpellsModule}
use Rattle.w4_defs.specs.Profile.{profile_refusal}
use Rattle.w4_defs.specs.Validity.{KeepsModuleRules, IsFirstUntyped, IsValid}
use Rattle.w4_defs.specs.Limits.{cart_limit}

-- why a module that the profile lets through is invalid: a module rule, or the first function without a
-- typing
abbrev pub IsInvalid : WasmModule → Option ℕ → Type 0
IsInvalid m None = KeepsModuleRules m → ⊥
IsInvalid m (Some func) = KeepsModuleRules m × IsFirstUntyped m func

-- the bytes are refused for this cause, and for none before it
abbrev pub IsRefused : List ℕ → CartKind → Type 0
IsRefused bytes TooLarge = cart_limit < length bytes
IsRefused bytes Malformed = (length bytes ≤ cart_limit) × ((m : WasmModule) → SpellsModule bytes m → ⊥)
IsRefused bytes (Profile refusal) =
    (length bytes ≤ cart_limit) × (m : WasmModule) × SpellsModule bytes m × (profile_refusal m ≡ Some refusal)
IsRefused bytes (Invalid func) =
    (length bytes ≤ cart_limit) × (m : WasmModule) × SpellsModule bytes m × (profile_refusal m ≡ None)
    × IsInvalid m func

-- the bytes are a cart with this module: none of the causes holds
abbrev pub IsCart : List ℕ → WasmModule → Type 0
IsCart bytes m = (length bytes ≤ cart_limit) × SpellsModule bytes m × (profile_refusal m ≡ None) × IsValid m

-- every list of bytes is a cart or is refused for a kind: it can't be neither
abbrev pub EveryFileIsJudged : Type 0
EveryFileIsJudged =
    (bytes : List ℕ) → ((m : WasmModule) → IsCart bytes m → ⊥)
    → ((kind : CartKind) → IsRefused bytes kind → ⊥) → ⊥
