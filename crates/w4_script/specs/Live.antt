-- What a line of a live session asks for, as the definitions see it, and orders as such lines have them: what
-- holds of the requests of a query, and the places of a range don't fall.
use Rattle.std.specs.Prelude.{◌≤◌}
use Rattle.w4_defs.specs.declared.live.LiveOrder.{LiveOrder}
use Rattle.w4_defs.specs.declared.live.LiveOrder.TheVariants as live
use Rattle.w4_defs.specs.Live.{Asked as DefinedAsked}
use Rattle.w4_defs.specs.Live as defined
use Rattle.w4_script.specs.declared.live.Asked.{Asked}
use Rattle.w4_script.specs.declared.live.Asked.TheVariants as asked
use Rattle.w4_script.specs.Query.{IsRequest}

abbrev pub asked_view : Asked → DefinedAsked
asked_view asked.Nothing = defined.AsksNothing
asked_view asked.NoOrder = defined.NoOrder
asked_view (asked.Order order) = defined.Asks order

abbrev pub IsLiveOrder : LiveOrder → Type 0
IsLiveOrder (live.Script order) = Unit {0}
IsLiveOrder (live.Query ask) = IsRequest ask
IsLiveOrder (live.PageAt p) = Unit {0}
IsLiveOrder (live.GlobalsAt p) = Unit {0}
IsLiveOrder (live.Inputs a b) = a ≤ b
IsLiveOrder (live.Units a b) = a ≤ b
IsLiveOrder live.Save = Unit {0}

abbrev pub IsAsked : Asked → Type 0
IsAsked asked.Nothing = Unit {0}
IsAsked asked.NoOrder = Unit {0}
IsAsked (asked.Order order) = IsLiveOrder order
