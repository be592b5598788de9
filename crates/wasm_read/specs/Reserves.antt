-- An accepted cart has no function whose own reserve is too large for an entry function: its parameters and
-- locals are at most 1,024, and each of its instructions takes a byte of the at most 65,536.
use Rattle.std.specs.Prelude.{◌≡◌, ℕ, ◌≤◌, List, Some, slice_get}
use Rattle.w4_defs.specs.Module.{WasmModule}
use Rattle.w4_defs.specs.Program.{Own, own_function, callees, reserve_of}
use Rattle.w4_defs.specs.Cart.{IsCart}

abbrev pub ReservesAreSmall : Type 0
ReservesAreSmall =
    (bytes : List ℕ) (m : WasmModule) → IsCart bytes m → (index : ℕ) (f : Own)
    → slice_get (callees m) index ≡ Some (own_function f) → reserve_of f ≤ 1048576
