use Rattle.std.proofs.lemmas.Result.{err_from_is_err_and}
use Rattle.w4_defs.specs.Endings.{manner_of}
use Rattle.w4_defs.specs.Output.{reading}
use Rattle.w4_defs.specs.ToolOutputs.{log_orders, log_in}
use Rattle.w4_commands.proofs.LoadLaws.{stops_first, judged_by}
use Rattle.w4_commands.proofs.net.load_log.Goals as goal

pub returns-in_err-bytes-clause-gives : goal.returns-in_err-bytes-clause-gives
unfolding log_in
returns-in_err-bytes-clause-gives g c =
    let p = err_from_is_err_and c.from_residual.result c.from_residual.ensures.1 in
    rw (p.1, p.2)
    (stops_first (g.H.House.world c.args.house.now) (g.H.House.world c.read_file.new.house)
    (manner_of c.in_err-bytes.field-0.0) (λ files. reading files c.args.name.now 1048577)
    (λ files bytes. log_orders bytes) c.in_err-bytes.ensures.gives)

pub returns-clause-gives : goal.returns-clause-gives
unfolding log_in
returns-clause-gives g c =
    judged_by (g.H.House.world c.args.house.now) (g.H.House.world c.read_file.new.house)
    (λ orders. orders.items) c.judge_log.result log_orders 1048576 c.args.name.now
    c.in_ok-bytes.bytes.items c.in_ok-bytes.ensures.gives
    (rw (← c.as_slice.ensures.value) c.judge_log.ensures)
