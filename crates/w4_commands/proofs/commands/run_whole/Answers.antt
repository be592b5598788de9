use Rattle.std.proofs.lemmas.Result.{err_from_is_err_and}
use Rattle.w4_defs.specs.Output.{run_files}
use Rattle.w4_commands.specs.RunOutputs.{whole_text}
use Rattle.w4_commands.specs.Load.{run_files_view}
use Rattle.w4_commands.specs.Forms.{run_view}
use Rattle.w4_commands.proofs.CommandLaws.{ends_unprinted, ends_printed}
use Rattle.w4_commands.proofs.WholeTextLaws.{whole_text_there}
use Rattle.w4_commands.proofs.commands.run_whole.Goals as goal

pub returns-in_err-run-clause-ends : goal.returns-in_err-run-clause-ends
returns-in_err-run-clause-ends g c =
    let p = err_from_is_err_and c.from_residual.result c.from_residual.ensures.1 in
    let cart = c.args.file.now in
    rw (p.1, p.2)
    (ends_unprinted (g.H.House.world c.args.house.now) (g.H.House.world c.load_run.new.house)
    c.in_err-run.field-0.0 (λ files. run_files cart.digest (run_view c.args.names) files)
    (whole_text c.args.text cart.cart) c.in_err-run.ensures.rest c.in_err-run.ensures.gives)

pub returns-clause-ends : goal.returns-clause-ends
returns-clause-ends g c =
    let cart = c.args.file.now in
    let run = run_files_view c.in_ok-run.run' in
    ends_printed (g.H.House.world c.args.house.now) (g.H.House.world c.load_run.new.house)
    (g.H.House.world c.write_whole.new.house) (λ files. run_files cart.digest (run_view c.args.names) files)
    run
    (whole_text c.args.text cart.cart) c.in_ok-run.ensures.rest c.write_whole.ensures.rest
    c.in_ok-run.ensures.gives (whole_text_there cart.cart cart.meaning c.args.text run) c.write_whole.result
    c.write_whole.ensures.out
