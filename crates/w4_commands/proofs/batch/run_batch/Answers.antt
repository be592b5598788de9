use Rattle.std.proofs.lemmas.Result.{err_from_is_err_and}
use Rattle.w4_defs.specs.ToolOutputs.{batch_files, batch_output, batch_text}
use Rattle.w4_defs.proofs.OutputsThereLaws.{batch_text_there}
use Rattle.w4_commands.specs.Batch.{batch_loaded_view}
use Rattle.w4_commands.specs.Forms.{batch_view}
use Rattle.w4_commands.specs.Load.{cart_view}
use Rattle.w4_commands.proofs.CommandLaws.{ends_unprinted, ends_printed}
use Rattle.w4_commands.proofs.batch.run_batch.Goals as goal

pub returns-in_err-loaded-clause-ends : goal.returns-in_err-loaded-clause-ends
unfolding batch_output
returns-in_err-loaded-clause-ends g c =
    let p = err_from_is_err_and c.from_residual.result c.from_residual.ensures.1 in
    rw (p.1, p.2)
    (ends_unprinted (g.H.House.world c.args.house.now) (g.H.House.world c.load_batch.new.house)
    c.in_err-loaded.field-0.0 (λ files. batch_files (batch_view c.args.names) files)
    (λ l. batch_text (cart_view c.args.file.now) l) c.in_err-loaded.ensures.rest
    c.in_err-loaded.ensures.gives)

pub returns-clause-ends : goal.returns-clause-ends
unfolding batch_output
returns-clause-ends g c =
    ends_printed (g.H.House.world c.args.house.now) (g.H.House.world c.load_batch.new.house)
    (g.H.House.world c.write_batch.new.house) (λ files. batch_files (batch_view c.args.names) files)
    (batch_loaded_view c.in_ok-loaded.loaded) (λ l. batch_text (cart_view c.args.file.now) l)
    c.in_ok-loaded.ensures.rest
    c.write_batch.ensures.rest c.in_ok-loaded.ensures.gives
    (batch_text_there (cart_view c.args.file.now) c.args.file.now.meaning
    (batch_loaded_view c.in_ok-loaded.loaded)) c.write_batch.result c.write_batch.ensures.out
