-- The state that a console lends out to be written: what it is at the end is the console's.
use Rattle.std.specs.Borrow.{Fml, MutBor, Lends}
use Rattle.w4_console.specs.contracts.console.Console.{the_row}
use Rattle.w4_map.specs.contracts.state.State.{the_row as state_row}
use Rattle.w4_defs.specs.State.{State}

abbrev pub LendsState : MutBor State → MutBor State → Fml
LendsState console state = Lends the_row state_row console state (λ now. now)
