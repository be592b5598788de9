-- What holds of the bytes that are written.
use Rattle.std.specs.Prelude.{ℕ, ◌^◌, ◌<◌, ◌≤◌, List, length}
use Rattle.std.specs.List.{AllByRecursion}
use Rattle.w4_defs.specs.BinaryNumber.{unsigned, signed}
use Rattle.w4_defs.specs.BinaryModule.{SpellsModule}
use Rattle.w4_defs.specs.Cart.{IsCart}
use Rattle.w4_defs.specs.Generator.{made_module}
use Rattle.w4_defs.specs.Module.{WasmModule}
use Rattle.w4_defs.specs.EncodeNumber.{unsigned_bytes, signed_bytes}
use Rattle.w4_defs.specs.EncodeModule.{module_bytes}
use Rattle.wasm_write.specs.Fits.{ModuleFits}

-- they encode the module, wherever the format can
abbrev pub ModulesAreEncoded : Type 0
ModulesAreEncoded = (m : WasmModule) → ModuleFits m → SpellsModule (module_bytes m) m

-- those of each made module are a cart
abbrev pub MadeModulesAreCarts : Type 0
MadeModulesAreCarts = (number : ℕ) → IsCart (module_bytes (made_module number)) (made_module number)

abbrev pub AreBytes : List ℕ → Type 0
AreBytes text = AllByRecursion (λ b. b < 256) text

-- a number is encoded, and no encoding of it has fewer bytes
abbrev pub UnsignedAreShortest : Type 0
UnsignedAreShortest =
    (w n : ℕ) → n < 2 ^ w
    → unsigned w n (unsigned_bytes n)
    × ((text : List ℕ) → AreBytes text → unsigned w n text → length (unsigned_bytes n) ≤ length text)

abbrev pub SignedAreShortest : Type 0
SignedAreShortest =
    (w n : ℕ) → n < 2 ^ w
    → signed w n (signed_bytes w n)
    × ((text : List ℕ) → AreBytes text → signed w n text → length (signed_bytes w n) ≤ length text)
