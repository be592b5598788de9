-- Bytes encode at most one module.
use Rattle.std.specs.Prelude.{◌≡◌, ℕ, List}
use Rattle.w4_defs.specs.Module.{WasmModule}
use Rattle.w4_defs.specs.BinaryModule.{SpellsModule}

abbrev pub AtMostOneModule : Type 0
AtMostOneModule = (bytes : List ℕ) (m n : WasmModule) → SpellsModule bytes m → SpellsModule bytes n → m ≡ n
