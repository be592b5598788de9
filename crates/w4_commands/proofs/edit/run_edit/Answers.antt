use Rattle.std.proofs.Common.{List, option_map, subst}
use Rattle.std.specs.Option.{ForSome}
use Rattle.w4_defs.specs.declared.order.Order.{Order}
use Rattle.w4_defs.specs.Output.{edit_answers, edit_files, edit_output, edit_result, edited_recording}
use Rattle.w4_defs.specs.Recording.{encoding}
use Rattle.w4_defs.proofs.OutputsThereLaws.{edit_answers_there}
use Rattle.w4_defs.proofs.ThereLaws.{value_there}
use Rattle.w4_commands.specs.Load.{cart_view}
use Rattle.w4_commands.specs.Forms.{edit_view}
use Rattle.w4_commands.specs.Edit.{Carried, loaded_view, run_and_orders}
use Rattle.w4_commands.proofs.CommandLaws.{ends_edit, ends_unmade}
use Rattle.w4_commands.proofs.edit.run_edit.Goals as goal

pub returns-in-Err-clause-ends : goal.returns-in-Err-clause-ends
unfolding edit_output
returns-in-Err-clause-ends g c =
    let cart = c.args.file.cart in
    ends_unmade (g.H.House.world c.args.house.now) (g.H.House.world c.load_edit.new.house)
    c.in-Err.refusal (λ files. edit_files c.args.file.digest (edit_view c.args.names) files)
    (λ l. option_map (edit_result cart l c.args.names.out.now) (edit_answers cart l).out)
    c.in-Err.ensures.rest c.in-Err.ensures.gives

pub returns-in-Ok-clause-ends : goal.returns-in-Ok-clause-ends
returns-in-Ok-clause-ends g c =
    let cart = c.args.file.cart in
    let loaded = loaded_view c.in-Ok.loaded in
    let run = c.in-Ok.loaded.run in
    let before = g.H.House.world c.load_edit.new.house in
    let after = g.H.House.world c.carry_out.new.house in
    let carried =
    subst (λ (orders : List Order). ForSome (edit_answers cart (run_and_orders run orders)).out
    (λ out. Carried before after c.carry_out.result out c.args.names.out.now
    (encoding 2 (edited_recording cart (run_and_orders run orders)))))
    c.as_slice.ensures.value c.carry_out.ensures.carried in
    let told = value_there (edit_answers cart loaded).out (edit_answers_there cart c.args.file.meaning loaded)
    in
    ends_edit (g.H.House.world c.args.house.now) (g.H.House.world c.load_edit.new.house)
    after (edit_view c.args.names) (cart_view c.args.file) loaded
    c.in-Ok.ensures.rest c.in-Ok.ensures.gives told.0 told.1 c.carry_out.result
    (carried told.0 told.1)
