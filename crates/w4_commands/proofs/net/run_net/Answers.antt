use Rattle.std.proofs.Common.{List, subst}
use Rattle.std.specs.Option.{ForSome}
use Rattle.w4_defs.specs.declared.netplay.NetOrder.{NetOrder}
use Rattle.w4_defs.specs.ToolOutputs.{net_files, net_output, net_text}
use Rattle.w4_defs.proofs.OutputsThereLaws.{net_text_there}
use Rattle.w4_answers.specs.Writing.{Written}
use Rattle.w4_commands.specs.Net.{net_loaded_view}
use Rattle.w4_commands.specs.Forms.{net_view}
use Rattle.w4_commands.proofs.CommandLaws.{ends_unprinted, ends_printed}
use Rattle.w4_commands.proofs.net.run_net.Goals as goal

pub returns-in-Err-clause-ends : goal.returns-in-Err-clause-ends
unfolding net_output
returns-in-Err-clause-ends g c =
    ends_unprinted (g.H.House.world c.args.house.now) (g.H.House.world c.load_net.new.house)
    c.in-Err.refusal (λ files. net_files (net_view c.args.names) files)
    (λ l. net_text c.args.file.cart c.args.names.budget.units l) c.in-Err.ensures.rest
    c.in-Err.ensures.gives

pub returns-in-Ok-clause-ends : goal.returns-in-Ok-clause-ends
unfolding net_output
returns-in-Ok-clause-ends g c =
    let cart = c.args.file.cart in
    let units = c.args.names.budget.units in
    let font = c.in-Ok.loaded.font in
    let before = g.H.House.world c.load_net.new.house in
    let after = g.H.House.world c.answer_log.new.house in
    let out =
    subst (λ (orders : List NetOrder). ForSome (net_text cart units (record { font = font; orders = orders }))
    (λ text. Written before after c.answer_log.result text))
    c.as_slice.ensures.value c.answer_log.ensures.out in
    ends_printed (g.H.House.world c.args.house.now) (g.H.House.world c.load_net.new.house)
    (g.H.House.world c.answer_log.new.house) (λ files. net_files (net_view c.args.names) files)
    (net_loaded_view c.in-Ok.loaded) (λ l. net_text c.args.file.cart c.args.names.budget.units l)
    c.in-Ok.ensures.rest
    c.answer_log.ensures.rest c.in-Ok.ensures.gives
    (net_text_there c.args.file.cart c.args.file.meaning c.args.names.budget.units
    (net_loaded_view c.in-Ok.loaded)) c.answer_log.result out
