use Rattle.w4_commands.specs.Load.{cart_view, run_files_view}
use Rattle.w4_commands.specs.Forms.{serve_view}
use Rattle.w4_commands.proofs.ServeLaws.{serve_made, serve_unread}
use Rattle.w4_commands.proofs.serve.run_serve.Goals as goal

pub returns-in-Ok-clause-ends : goal.returns-in-Ok-clause-ends
returns-in-Ok-clause-ends g c =
    serve_made (g.H.House.world c.args.house.now) (g.H.House.world c.load_run.new.house)
    (g.H.House.world c.serve_run.new.house) (serve_view c.args.names) (cart_view c.args.file)
    (run_files_view c.in-Ok.run') c.in-Ok.ensures.rest c.in-Ok.ensures.gives c.serve_run.result
    c.serve_run.ensures.ends

pub returns-in-Err-clause-ends : goal.returns-in-Err-clause-ends
returns-in-Err-clause-ends g c =
    serve_unread (g.H.House.world c.args.house.now) (g.H.House.world c.load_run.new.house)
    (serve_view c.args.names) (cart_view c.args.file) c.in-Err.refusal c.in-Err.ensures.rest
    c.in-Err.ensures.gives
