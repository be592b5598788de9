use Rattle.std.proofs.Common.{sym, ◌∙◌, arith}
use Rattle.w4_defs.specs.Lines.{lines_of}
use Rattle.w4_defs.specs.OrderFile.{orders_in}
use Rattle.w4_script.specs.Reading.{lines_left, written_view}
use Rattle.w4_defs.proofs.ScriptLaws.{file_limit}
use Rattle.w4_script.proofs.OrderFileLaws.{one_order, bad_line, no_line}
use Rattle.w4_script.proofs.order_file.read_orders.Goals as goal

pub loop-line-preserved : goal.loop-line-preserved
loop-line-preserved g c =
    let order_of = g.O.LineOrder.order_of in
    rw c.in_ok-push-in-Some-of_words.ensures.items
    (one_order order_of c.loop-line.orders.items (lines_left c.loop-line.line-iterator)
    (lines_left c.next.new.self) (written_view c.in-Some.line) c.in-Some-of_words.order
    (orders_in order_of (lines_of c.args.bytes.now)) c.in-Some.ensures.steps
    (sym c.in-Some-of_words.ensures) c.loop-line.invariant)

pub returns-in-None-of_words-clause-refused : goal.returns-in-None-of_words-clause-refused
returns-in-None-of_words-clause-refused g c =
    let order_of = g.O.LineOrder.order_of in
    (file_limit order_of c.args.bytes.now).0 (omega arith)
    ∙ bad_line order_of c.loop-line.orders.items (lines_left c.loop-line.line-iterator)
    (lines_left c.next.new.self) (written_view c.in-Some.line)
    (orders_in order_of (lines_of c.args.bytes.now)) c.in-Some.ensures.steps
    (sym c.in-None-of_words.ensures) c.loop-line.invariant

pub returns-clause-orders : goal.returns-clause-orders
returns-clause-orders g c =
    let order_of = g.O.LineOrder.order_of in
    (file_limit order_of c.args.bytes.now).0 (omega arith)
    ∙ no_line order_of c.loop-line.orders.items (lines_left c.loop-line.line-iterator)
    (orders_in order_of (lines_of c.args.bytes.now)) c.in-None.ensures.steps.0 c.loop-line.invariant
