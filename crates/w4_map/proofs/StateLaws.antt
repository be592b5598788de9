-- The laws of a console's state.
use Rattle.std.proofs.Common.{◌≡◌, ℕ, List, [], refl}
use Rattle.w4_defs.specs.declared.value.Val.{Val}
use Rattle.w4_defs.specs.declared.console.Halt.TheVariants.{Running}
use Rattle.w4_defs.specs.Tones.{Channels, silent}
use Rattle.w4_defs.specs.State.{State, zero_page, blank_state}

-- a state of these parts in which the cart runs
abbrev pub running : List ℕ → List Val → Channels → List ℕ → State
running page globals channels disk =
    record { page = page; globals = globals; channels = channels; disk = disk; halt = Running }

pub is_blank : (page : List ℕ) (globals cart_globals : List Val) (channels : Channels) (disk : List ℕ)
    → page ≡ zero_page
    → globals ≡ cart_globals → channels ≡ silent → disk ≡ []
    → running page globals channels disk ≡ blank_state cart_globals
is_blank page globals cart_globals channels disk p g c d = rw (p, g, c, d) refl
