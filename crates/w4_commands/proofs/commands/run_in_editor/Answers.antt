use Rattle.std.proofs.lemmas.Result.{err_from_is_err_and}
use Rattle.w4_defs.specs.Output.{edit_output}
use Rattle.w4_defs.specs.ToolOutputs.{net_output, ram_output}
use Rattle.w4_commands.specs.Commands.{MakesOf, finished}
use Rattle.w4_commands.specs.Load.{cart_view}
use Rattle.w4_commands.specs.Forms.{edit_view, editor_command_view, net_view, run_view}
use Rattle.w4_commands.proofs.CommandLaws.{by_any, judged_form, unjudged_form}
use Rattle.w4_commands.proofs.commands.run_in_editor.Goals as goal

pub returns-in-Ram-clause-ends : goal.returns-in-Ram-clause-ends
returns-in-Ram-clause-ends g c =
    judged_form (g.H.House.world c.args.house.now) (g.H.House.world c.load_cart.new.house)
    (g.H.House.world c.run_ram.new.house) (finished c.run_ram.result) (editor_command_view c.args.command)
    c.edited_cart_name.result.now (cart_view c.in_ok-file.file) c.edited_cart_name.ensures
    c.in_ok-file.ensures.rest
    c.in_ok-file.ensures.gives
    (rw c.in-Ram.is (by_any (g.H.House.world c.load_cart.new.house) (g.H.House.world c.run_ram.new.house)
    c.run_ram.result
    (MakesOf (λ files. ram_output (run_view c.in-Ram.names) c.in-Ram.query.now (cart_view c.in_ok-file.file)
    files)) c.run_ram.ensures.ends))

pub returns-in-Edit-clause-ends : goal.returns-in-Edit-clause-ends
returns-in-Edit-clause-ends g c =
    judged_form (g.H.House.world c.args.house.now) (g.H.House.world c.load_cart.new.house)
    (g.H.House.world c.run_edit.new.house) (finished c.run_edit.result) (editor_command_view c.args.command)
    c.edited_cart_name.result.now (cart_view c.in_ok-file.file) c.edited_cart_name.ensures
    c.in_ok-file.ensures.rest
    c.in_ok-file.ensures.gives
    (rw c.in-Edit.is (by_any (g.H.House.world c.load_cart.new.house) (g.H.House.world c.run_edit.new.house)
    c.run_edit.result
    (MakesOf (λ files. edit_output (edit_view c.in-Edit.names) (cart_view c.in_ok-file.file) files))
    c.run_edit.ensures.ends))

pub returns-in-Net-clause-ends : goal.returns-in-Net-clause-ends
returns-in-Net-clause-ends g c =
    judged_form (g.H.House.world c.args.house.now) (g.H.House.world c.load_cart.new.house)
    (g.H.House.world c.run_net.new.house) (finished c.run_net.result) (editor_command_view c.args.command)
    c.edited_cart_name.result.now (cart_view c.in_ok-file.file) c.edited_cart_name.ensures
    c.in_ok-file.ensures.rest
    c.in_ok-file.ensures.gives
    (rw c.in-Net.is (by_any (g.H.House.world c.load_cart.new.house) (g.H.House.world c.run_net.new.house)
    c.run_net.result
    (MakesOf (λ files. net_output (net_view c.in-Net.names) (cart_view c.in_ok-file.file) files))
    c.run_net.ensures.ends))

pub returns-in-Serve-clause-ends : goal.returns-in-Serve-clause-ends
returns-in-Serve-clause-ends g c =
    judged_form (g.H.House.world c.args.house.now) (g.H.House.world c.load_cart.new.house)
    (g.H.House.world c.run_serve.new.house) (finished c.run_serve.result) (editor_command_view c.args.command)
    c.edited_cart_name.result.now (cart_view c.in_ok-file.file) c.edited_cart_name.ensures
    c.in_ok-file.ensures.rest
    c.in_ok-file.ensures.gives
    (rw c.in-Serve.is c.run_serve.ensures.ends)

pub returns-in_err-file-clause-ends : goal.returns-in_err-file-clause-ends
returns-in_err-file-clause-ends g c =
    let p = err_from_is_err_and c.from_residual.result c.from_residual.ensures.1 in
    rw (p.1, p.2)
    (unjudged_form (g.H.House.world c.args.house.now) (g.H.House.world c.load_cart.new.house)
    c.in_err-file.field-0.0 (editor_command_view c.args.command) c.edited_cart_name.result.now
    c.edited_cart_name.ensures c.in_err-file.ensures.rest c.in_err-file.ensures.gives)
