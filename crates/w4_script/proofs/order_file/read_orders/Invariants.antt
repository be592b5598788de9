use Rattle.std.proofs.Common.{◌≡◌}
use Rattle.w4_defs.specs.Lines.{lines_of}
use Rattle.w4_defs.specs.OrderFile.{orders_in}
use Rattle.w4_script.proofs.OrderFileLaws.{with_orders}
use Rattle.w4_script.specs.Reading.{lines_left}
use Rattle.w4_script.proofs.order_file.read_orders.Given as goal

abbrev pub invariant-loop-line : goal.invariant-loop-line
invariant-loop-line g l =
    with_orders l.orders.items (orders_in g.O.LineOrder.order_of (lines_left l.line-iterator))
    ≡ orders_in g.O.LineOrder.order_of (lines_of l.bytes)
