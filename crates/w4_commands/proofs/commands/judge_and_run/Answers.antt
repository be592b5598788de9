use Rattle.std.proofs.lemmas.Result.{err_from_is_err_and}
use Rattle.w4_commands.specs.Commands.{finished}
use Rattle.w4_commands.specs.Load.{cart_view}
use Rattle.w4_commands.specs.Forms.{cart_command_view}
use Rattle.w4_commands.proofs.CommandLaws.{judged_form, unjudged_form}
use Rattle.w4_commands.proofs.commands.judge_and_run.Goals as goal

pub returns-clause-ends : goal.returns-clause-ends
returns-clause-ends g c =
    judged_form (g.H.House.world c.args.house.now) (g.H.House.world c.load_cart.new.house)
    (g.H.House.world c.run_on_cart-end.new.house) (finished c.run_on_cart-end.result)
    (cart_command_view c.args.command)
    c.cart_name.result.now (cart_view c.in_ok-file.file) c.cart_name.ensures c.in_ok-file.ensures.rest
    c.in_ok-file.ensures.gives c.run_on_cart-end.ensures.ends

pub returns-in_err-file-clause-ends : goal.returns-in_err-file-clause-ends
returns-in_err-file-clause-ends g c =
    let p = err_from_is_err_and c.from_residual.result c.from_residual.ensures.1 in
    rw (p.1, p.2)
    (unjudged_form (g.H.House.world c.args.house.now) (g.H.House.world c.load_cart.new.house)
    c.in_err-file.field-0.0 (cart_command_view c.args.command) c.cart_name.result.now c.cart_name.ensures
    c.in_err-file.ensures.rest c.in_err-file.ensures.gives)
