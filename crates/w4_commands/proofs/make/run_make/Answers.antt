use Rattle.w4_defs.specs.EncodeModule.{module_bytes}
use Rattle.w4_defs.specs.Generator.{made_module}
use Rattle.w4_defs.proofs.OutputsThereLaws.{made_text_there}
use Rattle.w4_commands.proofs.SummaryLaws.{ends_made}
use Rattle.w4_commands.proofs.make.run_make.Goals as goal

pub returns-clause-ends : goal.returns-clause-ends
returns-clause-ends g c =
    let number = c.args.number in
    let frames = c.accepted_runs_have_meaning.ensures (module_bytes (made_module number)) (made_module number)
    (c.made_modules_are_carts.ensures number) in
    ends_made (g.H.House.world c.args.house.now) (g.H.House.world c.write_made.new.house) c.write_made.result
    number
    (made_text_there number frames.runs) c.write_made.ensures.rest c.write_made.ensures.out
