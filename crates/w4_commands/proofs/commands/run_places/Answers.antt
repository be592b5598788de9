use Rattle.std.proofs.Common.{◌+◌, ◌-◌}
use Rattle.std.proofs.lemmas.Result.{err_from_is_err_and}
use Rattle.w4_defs.specs.Output.{place_texts_from, run_files_to}
use Rattle.w4_defs.proofs.OutputsThereLaws.{place_texts_there}
use Rattle.w4_commands.specs.Load.{run_files_view}
use Rattle.w4_commands.specs.Forms.{run_view}
use Rattle.w4_commands.proofs.CommandLaws.{ends_unprinted, ends_printed}
use Rattle.w4_commands.proofs.commands.run_places.Goals as goal

pub returns-in_err-run-clause-ends : goal.returns-in_err-run-clause-ends
returns-in_err-run-clause-ends g c =
    let p = err_from_is_err_and c.from_residual.result c.from_residual.ensures.1 in
    let cart = c.args.file.now in
    let from = c.args.places.from in
    let to = c.args.places.to in
    rw (p.1, p.2)
    (ends_unprinted (g.H.House.world c.args.house.now) (g.H.House.world c.load_run_to.new.house)
    c.in_err-run.field-0.0 (λ files. run_files_to cart.digest (run_view c.args.names) to files)
    (λ p. place_texts_from c.args.text cart.cart p from (to + 1 - from)) c.in_err-run.ensures.rest
    c.in_err-run.ensures.gives)

pub returns-clause-ends : goal.returns-clause-ends
returns-clause-ends g c =
    let cart = c.args.file.now in
    let from = c.args.places.from in
    let to = c.args.places.to in
    let run = run_files_view c.in_ok-run.run' in
    ends_printed (g.H.House.world c.args.house.now) (g.H.House.world c.load_run_to.new.house)
    (g.H.House.world c.write_run.new.house) (λ files. run_files_to cart.digest (run_view c.args.names) to
    files)
    run (λ p. place_texts_from c.args.text cart.cart p from (to + 1 - from)) c.in_ok-run.ensures.rest
    c.write_run.ensures.rest c.in_ok-run.ensures.gives
    (place_texts_there cart.cart cart.meaning c.args.text run from (to + 1 - from)) c.write_run.result
    c.write_run.ensures.out
