use Rattle.w4_defs.specs.Output.{checked}
use Rattle.w4_commands.proofs.CommandLaws.{ends_written}
use Rattle.w4_commands.proofs.commands.run_check.Goals as goal

pub returns-clause-ends : goal.returns-clause-ends
returns-clause-ends g c =
    ends_written (g.H.House.world c.args.house.now) (g.H.House.world c.write_bytes.new.house)
    c.write_bytes.result
    checked c.write_bytes.ensures.rest c.write_bytes.ensures.out
