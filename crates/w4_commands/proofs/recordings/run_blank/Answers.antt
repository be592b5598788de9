use Rattle.std.proofs.Common.{subst}
use Rattle.std.specs.Prelude.{[]}
use Rattle.w4_defs.specs.Recording.{encoding}
use Rattle.w4_defs.specs.Output.{blank_recording}
use Rattle.w4_answers.specs.Writing.{Written}
use Rattle.w4_commands.proofs.CommandLaws.{ends_written}
use Rattle.w4_commands.proofs.recordings.run_blank.Goals as goal

pub returns-clause-ends : goal.returns-clause-ends
returns-clause-ends g c =
    let old = g.H.House.world c.args.house.now in
    let new = g.H.House.world c.write_blank.new.house in
    ends_written (g.H.House.world c.args.house.now) (g.H.House.world c.write_blank.new.house)
    c.write_blank.result
    (encoding 2 (blank_recording c.args.file.now.digest c.args.budget.units []))
    c.write_blank.ensures.rest
    (subst (λ disk. Written old new c.write_blank.result
    (encoding 2 (blank_recording c.args.file.now.digest c.args.budget.units disk))) c.new.ensures.items
    c.write_blank.ensures.out)
