use Rattle.w4_defs.specs.Output.{make_output}
use Rattle.w4_defs.specs.RecordingOutputs.{inputs_output}
use Rattle.w4_commands.specs.Commands.{MakesOf}
use Rattle.w4_commands.specs.Load.{ResultsIn}
use Rattle.w4_commands.proofs.CommandLaws.{by_any}
use Rattle.w4_commands.proofs.commands.run_form.Goals as goal

pub returns-in-Make-clause-ends : goal.returns-in-Make-clause-ends
returns-in-Make-clause-ends g c = rw (c.in-Make.is, c.finish.ensures)
    (by_any (g.H.House.world c.args.house.now) (g.H.House.world c.run_make.new.house) c.run_make.result
    (MakesOf (λ files. make_output c.in-Make.number)) c.run_make.ensures.ends)

pub returns-in-Inputs-clause-ends : goal.returns-in-Inputs-clause-ends
returns-in-Inputs-clause-ends g c = rw (c.in-Inputs.is, c.finish-in-Inputs.ensures)
    (by_any (g.H.House.world c.args.house.now) (g.H.House.world c.run_inputs.new.house)
    c.run_inputs.result
    (ResultsIn (λ files. inputs_output c.in-Inputs.name.now files)) c.run_inputs.ensures.ends)

pub returns-in-Compare-clause-ends : goal.returns-in-Compare-clause-ends
returns-in-Compare-clause-ends g c = rw c.in-Compare.is c.run_compare.ensures.ends

pub returns-in-OnCart-clause-ends : goal.returns-in-OnCart-clause-ends
returns-in-OnCart-clause-ends g c = rw (c.in-OnCart.is, c.finish-in-OnCart.ensures)
    c.judge_and_run.ensures.ends

pub returns-in-InEditor-clause-ends : goal.returns-in-InEditor-clause-ends
returns-in-InEditor-clause-ends g c = rw (c.in-InEditor.is, c.finish-in-InEditor.ensures)
    c.run_in_editor.ensures.ends
