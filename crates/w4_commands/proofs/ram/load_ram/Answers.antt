-- Each exit: what stopped this step stops the whole, after the step that went before it.
use Rattle.std.proofs.Common.{Ok}
use Rattle.std.proofs.lemmas.Result.{err_from_is_err_and}
use Rattle.w4_defs.specs.Endings.{manner_of}
use Rattle.w4_defs.specs.Output.{◌>>=◌, run_files}
use Rattle.w4_defs.specs.ToolOutputs.{query_in, ram_files}
use Rattle.w4_commands.specs.Forms.{run_view}
use Rattle.w4_commands.specs.Load.{run_files_view}
use Rattle.w4_commands.proofs.LoadLaws.{stops_first, stops_later}
use Rattle.w4_commands.proofs.ram.load_ram.Goals as goal

pub returns-in_err-run-clause-gives : goal.returns-in_err-run-clause-gives
unfolding ram_files
returns-in_err-run-clause-gives g c =
    let p = err_from_is_err_and c.from_residual.result c.from_residual.ensures.1 in
    rw (p.1, p.2)
    (stops_first (g.H.House.world c.args.house.now) (g.H.House.world c.load_run.new.house)
    (manner_of c.in_err-run.field-0.0)
    (λ files. run_files c.args.digest.now (run_view c.args.names) files)
    (λ files run. query_in files c.args.query.now >>= λ lines.
    Ok (record { run = run; lines = lines }))
    c.in_err-run.ensures.gives)

pub returns-in_err-lines-clause-gives : goal.returns-in_err-lines-clause-gives
unfolding ram_files
returns-in_err-lines-clause-gives g c =
    let p =
    err_from_is_err_and c.from_residual-in_err-lines.result c.from_residual-in_err-lines.ensures.1 in
    let run = run_files_view c.in_ok-run.run' in
    rw (p.1, p.2)
    (stops_later (g.H.House.world c.args.house.now) (g.H.House.world c.load_run.new.house)
    (g.H.House.world c.load_query.new.house) (manner_of c.in_err-lines.field-0.0)
    (λ files. run_files c.args.digest.now (run_view c.args.names) files) run
    (λ files run. query_in files c.args.query.now >>= λ lines.
    Ok (record { run = run; lines = lines }))
    c.in_ok-run.ensures.rest c.in_ok-run.ensures.gives
    (stops_first (g.H.House.world c.load_run.new.house) (g.H.House.world c.load_query.new.house)
    (manner_of c.in_err-lines.field-0.0) (λ files. query_in files c.args.query.now)
    (λ files lines. Ok (record { run = run; lines = lines })) c.in_err-lines.ensures.gives))
