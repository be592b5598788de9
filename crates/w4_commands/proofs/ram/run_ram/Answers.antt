use Rattle.std.proofs.Common.{List, subst}
use Rattle.std.specs.Option.{ForSome}
use Rattle.w4_defs.specs.declared.inspect.QueryLine.{QueryLine}
use Rattle.w4_defs.specs.ToolOutputs.{ram_files, ram_output, ram_text}
use Rattle.w4_defs.proofs.OutputsThereLaws.{ram_text_there}
use Rattle.w4_answers.specs.Writing.{Written}
use Rattle.w4_commands.specs.Load.{run_files_view}
use Rattle.w4_commands.specs.Ram.{ram_loaded_view}
use Rattle.w4_commands.specs.Forms.{run_view}
use Rattle.w4_commands.proofs.CommandLaws.{ends_unprinted, ends_printed}
use Rattle.w4_commands.proofs.ram.run_ram.Goals as goal

pub returns-in-Err-clause-ends : goal.returns-in-Err-clause-ends
unfolding ram_output
returns-in-Err-clause-ends g c =
    ends_unprinted (g.H.House.world c.args.house.now) (g.H.House.world c.load_ram.new.house)
    c.in-Err.refusal (λ files. ram_files c.args.file.digest (run_view c.args.names) c.args.query.now
    files) (λ l. ram_text c.args.file.cart l) c.in-Err.ensures.rest
    c.in-Err.ensures.gives

pub returns-in-Ok-clause-ends : goal.returns-in-Ok-clause-ends
unfolding ram_output
returns-in-Ok-clause-ends g c =
    let cart = c.args.file.cart in
    let run = run_files_view c.in-Ok.loaded.run in
    let before = g.H.House.world c.load_ram.new.house in
    let after = g.H.House.world c.answer_query.new.house in
    let out =
    subst (λ (lines : List QueryLine). ForSome (ram_text cart (record { run = run; lines = lines }))
    (λ text. Written before after c.answer_query.result text))
    c.as_slice-lines.ensures.value c.answer_query.ensures.out in
    ends_printed (g.H.House.world c.args.house.now) (g.H.House.world c.load_ram.new.house)
    (g.H.House.world c.answer_query.new.house) (λ files. ram_files c.args.file.digest (run_view c.args.names)
    c.args.query.now files) (ram_loaded_view c.in-Ok.loaded) (λ l. ram_text c.args.file.cart l)
    c.in-Ok.ensures.rest
    c.answer_query.ensures.rest c.in-Ok.ensures.gives
    (ram_text_there c.args.file.cart c.args.file.meaning (ram_loaded_view c.in-Ok.loaded))
    c.answer_query.result out
