-- What a search for a function without a typing finds (Core Specification, section 3.4.1).
use Rattle.std.specs.Prelude.{ℕ, ◌<◌, length, Option, Some, None}
use Rattle.w4_defs.specs.Module.{WasmModule}
use Rattle.w4_defs.specs.Validity.{IsTypedAt, IsFirstUntyped}

abbrev pub AreTypedBefore : WasmModule → ℕ → Type 0
AreTypedBefore m end = (k : ℕ) → k < end → IsTypedAt m k

-- the first own function without a typing, or that each has one
abbrev pub IsUntypedFound : WasmModule → Option ℕ → Type 0
IsUntypedFound m None = AreTypedBefore m (length m.bodies)
IsUntypedFound m (Some func) = IsFirstUntyped m func
