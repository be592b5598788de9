use Rattle.std.proofs.Common.{◌≡◌, All, Ok}
use Rattle.std.proofs.lemmas.Result.{IfOk-weaker}
use Rattle.w4_defs.specs.OrderFile.{file_of}
use Rattle.w4_defs.specs.RamQuery.{query_line_of}
use Rattle.w4_script.specs.Query.{IsQueryLine}
use Rattle.w4_script.proofs.QueryLaws.{query_fits}
use Rattle.w4_script.proofs.query.read_query.Goals as goal

pub returns-clause-fit : goal.returns-clause-fit
returns-clause-fit c =
    IfOk-weaker c.read_orders.result (λ lines. file_of query_line_of c.args.bytes.now ≡ Ok lines.items)
    (λ lines. All IsQueryLine lines.items) (λ lines. query_fits c.args.bytes.now lines.items)
    c.read_orders.ensures.orders
